-- The parts of an answer can be told: the code in the low 8 bits, the place or payload in the high 32, zero between. So an answer is
-- nothing but its code and its high half.
use Rattle.std.specs.Prelude.{ℕ, ◌/◌, ◌%◌, ◌<◌, ◌≡◌, refl, List}
use Rattle.std.proofs.Common.{arith}
use Rattle.inference.specs.Inference.{After, Infers, code_of as inferred_code, place_of}
use Rattle.inference.specs.AnswerPlaces.{inferred_place}
use Rattle.answers.specs.Answers.{code_of, payload_of}
use Rattle.machine.specs.Runs.{RunIs}
use Rattle.machine.specs.AnswerNumbers.{code_at_most_19}
use Rattle.machine.specs.declared.Ran.{Ran}
use Rattle.host.specs.Entries.{packed, part_of_a_node, whole_nodes, InfersTo, InferEntry, RunsTo, RunEntry}

pub record Parts (r code payload : ℕ) : Type 0 where
  pub low : r % 256 ≡ code
  pub between : r / 256 % 16777216 ≡ 0
  pub high : r / 4294967296 ≡ payload

parts_of_packed : {r code payload : ℕ} → r ≡ packed code payload → code < 256 → Parts r code payload
parts_of_packed is small = record { low = omega arith; between = omega arith; high = omega arith }

pub whole_of_parts : {r code payload : ℕ} → Parts r code payload → r ≡ packed code payload
whole_of_parts parts = omega (arith, parts.low, parts.between, parts.high)

-- ---- No code has more than 8 bits

inferred_code_small : {words work out : List ℕ} {a : After} → Infers words work out a → inferred_code a.answer < 256
inferred_code_small i = omega (arith, (inferred_place i).at_most_7)

run_code_small : {words bindings frames bindings' frames' : List ℕ} {fuel : ℕ} {ran : Ran} → RunIs words fuel bindings frames bindings' frames' ran → code_of ran.answer < 256
run_code_small x = omega (arith, code_at_most_19 x)

-- ---- The entries' answers

pub infer_parts : {words work type_words out out' : List ℕ} {r : ℕ} (i : InfersTo words work type_words out out' r) → Parts r (inferred_code i.after.answer) (place_of i.after.answer)
infer_parts i = parts_of_packed i.number (inferred_code_small i.infers)

pub run_parts : {words : List ℕ} {fuel r : ℕ} (i : RunsTo words fuel r) → Parts r (code_of i.ran.answer) (payload_of i.ran.answer)
run_parts i = parts_of_packed i.number (run_code_small i.runs)

its_parts : {r code payload : ℕ} → Parts r code payload → r ≡ packed (r % 256) (r / 4294967296)
its_parts parts = whole_of_parts (record { low = refl; between = parts.between; high = refl })

pub infer_is_its_parts : {table out out' : List ℕ} {r : ℕ} → InferEntry table out out' r → r ≡ packed (r % 256) (r / 4294967296)
infer_is_its_parts (part_of_a_node p (is, _)) = omega arith
infer_is_its_parts (whole_nodes p inferred) = its_parts (infer_parts inferred)

pub run_is_its_parts : {table : List ℕ} {fuel r : ℕ} → RunEntry table fuel r → r ≡ packed (r % 256) (r / 4294967296)
run_is_its_parts (part_of_a_node p is) = omega arith
run_is_its_parts (whole_nodes p ran) = its_parts (run_parts ran)
