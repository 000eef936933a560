-- The node in an entry's answer is below 512, so that a host may look it up in the table that it lent.
use Rattle.std.specs.Prelude.{ℕ, ◌/◌, ◌%◌, ◌<◌, ◌≢◌, List}
use Rattle.std.proofs.Common.{◌∙◌, arith}
use Rattle.inference.specs.AnswerPlaces.{place_below_512}
use Rattle.machine.specs.AnswerNumbers.{payload_below_512}
use Rattle.host.specs.Entries.{part_of_a_node, whole_nodes, InferEntry, RunEntry}
use Rattle.host.specs.Parts.{infer_parts, run_parts}

pub entry_place_below_512 : {table out out' : List ℕ} {r : ℕ} → InferEntry table out out' r → r % 256 ≢ 0 → r / 4294967296 < 512
entry_place_below_512 (part_of_a_node p (is, _)) refused = omega arith
entry_place_below_512 (whole_nodes p inferred) refused =
    let parts = infer_parts inferred in
    rw parts.high (place_below_512 inferred.infers (λ zero. refused (parts.low ∙ zero)))

pub entry_payload_below_512 : {table : List ℕ} {fuel r : ℕ} → RunEntry table fuel r → r % 256 ≢ 10 → r / 4294967296 < 512
entry_payload_below_512 (part_of_a_node p is) other = omega arith
entry_payload_below_512 (whole_nodes p ran) other =
    let parts = run_parts ran in
    rw parts.high (payload_below_512 ran.runs (λ ten. other (parts.low ∙ ten)))
