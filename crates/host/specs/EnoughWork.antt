-- The inference entry never answers 5: its work is enough for 512 nodes.
use Rattle.std.specs.Prelude.{ℕ, ◌%◌, ◌≢◌, List}
use Rattle.std.proofs.Common.{sym, ◌∙◌, arith}
use Rattle.std.proofs.lemmas.List.{length-replicate}
use Rattle.acceptance.specs.Accepted.{accepted_is_checked}
use Rattle.inference.specs.Inference.{code_of}
use Rattle.inference.specs.InferenceOnce.{code_5_exactly}
use Rattle.host.specs.Entries.{part_of_a_node, whole_nodes, InfersOn, InferEntry}
use Rattle.host.specs.Parts.{infer_parts}

work_is_enough : {words out out' : List ℕ} {r : ℕ} (i : InfersOn words out out' r) → code_of i.after.answer ≢ 5
work_is_enough {words} i five =
    let (n, v, short) = (code_5_exactly i.infers).0 five in
    omega (arith, (accepted_is_checked words n v).at_most_512, length-replicate {A = ℕ} 12304 0)

pub never_work_short : {table out out' : List ℕ} {r : ℕ} → InferEntry table out out' r → r % 256 ≢ 5
never_work_short (part_of_a_node p (is, _)) five = omega arith
never_work_short (whole_nodes p inferred) five = work_is_enough inferred (sym (infer_parts inferred).low ∙ five)
