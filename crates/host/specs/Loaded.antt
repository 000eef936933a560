-- What production asks of a host: a formula that inference answers with 0 is loaded, and no run of it answers 16, at any fuel.
use Rattle.std.specs.Prelude.{ℕ, ◌%◌, ◌≡◌, ◌≢◌, List}
use Rattle.std.proofs.Common.{sym, ◌∙◌, arith}
use Rattle.inference.specs.InferenceOnce.{code_0_exactly}
use Rattle.machine.specs.NeverStuck.{typed_run_not_stuck}
use Rattle.host.specs.Entries.{part_of_a_node, whole_nodes, InferEntry, RunEntry}
use Rattle.host.specs.Parts.{infer_parts, run_parts}

pub loaded_never_stuck : {table out out' : List ℕ} {i fuel r : ℕ} → InferEntry table out out' i → i % 256 ≡ 0 → RunEntry table fuel r → r % 256 ≢ 16
loaded_never_stuck (part_of_a_node p (is, _)) zero run e = absurd (omega arith)
loaded_never_stuck (whole_nodes p inferred) zero (part_of_a_node q is) e = absurd (q p)
loaded_never_stuck (whole_nodes p inferred) zero (whole_nodes q ran) e =
    let (n, τ, accepted, _, principal, _) = (code_0_exactly inferred.infers).0 (sym (infer_parts inferred).low ∙ zero) in
    typed_run_not_stuck accepted principal.typed ran.runs (sym (run_parts ran).low ∙ e)
