-- What the two entries for a host in C answer, and what the inference entry leaves in its out bytes.
use Rattle.std.specs.Prelude.{ℕ, ◌+◌, ◌*◌, ◌/◌, ◌%◌, ◌≡◌, ◌≢◌, cond, Result, Ok, Err, List, ◌++◌, ltb, length, take, drop}
use Rattle.lent.specs.Cleared.{zeros}
use Rattle.lent.specs.Bytes.{from_bytes, to_bytes}
use Rattle.inference.specs.Inference.{After, Infers, code_of as inferred_code, place_of}
use Rattle.inference.specs.declared.Untyped.{Untyped}
use Rattle.answers.specs.Answers.{code_of, payload_of}
use Rattle.machine.specs.Runs.{RunIs}
use Rattle.machine.specs.declared.Ran.{Ran}

-- Code in the low 8 bits, place or payload pattern in the high 32, zero between.
abbrev pub packed : ℕ → ℕ → ℕ
packed code payload = code + 4294967296 * payload

-- A byte length that is no multiple of 16 is code 1; else the table's words are answered.
pub data Entry (table : List ℕ) (CodeOne Answered : Type 0) : Type 0 where
  part_of_a_node : length table % 16 ≢ 0 → CodeOne → Entry table CodeOne Answered
  whole_nodes : length table % 16 ≡ 0 → Answered → Entry table CodeOne Answered

-- ---- The inference entry

-- Of so many out bytes only whole words count, the first 1,024 at most.
abbrev pub out_words : ℕ → ℕ
out_words bytes = cond (ltb (bytes / 4) 1024) (bytes / 4) 1024

-- Out is written on code 0 only: the type's words first, all later bytes untouched.
abbrev pub out_after : Result ℕ Untyped → List ℕ → List ℕ → List ℕ
out_after (Ok count) type_words out = to_bytes (take count type_words) ++ drop (4 * count) out
out_after (Err untyped) type_words out = out

-- Inference with these work and type words answers r, and leaves the bytes out' in the place of out.
pub record InfersTo (words work type_words out out' : List ℕ) (r : ℕ) : Type 0 where
  pub after : After
  pub infers : Infers words work type_words after
  pub number : r ≡ packed (inferred_code after.answer) (place_of after.answer)
  pub out_is_after : out' ≡ out_after after.answer after.out out

-- Its work is of the program's size.
abbrev pub InfersOn : List ℕ → List ℕ → List ℕ → ℕ → Type 0
InfersOn words out out' r = InfersTo words (zeros 12304) (zeros (out_words (length out))) out out' r

-- For every table and out bytes: the number r, and the bytes out' in the place of out.
abbrev pub InferEntry : List ℕ → List ℕ → List ℕ → ℕ → Type 0
InferEntry table out out' r = Entry table ((r ≡ packed 1 0) × (out' ≡ out)) (InfersOn (from_bytes table) out out' r)

-- ---- The run entry

-- The run on stores of the program's sizes, 512 cells each, answers r. Its two counts are left out.
pub record RunsTo (words : List ℕ) (fuel r : ℕ) : Type 0 where
  pub ran : Ran
  pub bindings_after : List ℕ
  pub frames_after : List ℕ
  pub runs : RunIs words fuel (zeros 4096) (zeros 4096) bindings_after frames_after ran
  pub number : r ≡ packed (code_of ran.answer) (payload_of ran.answer)

-- For every table and fuel: the number r.
abbrev pub RunEntry : List ℕ → ℕ → ℕ → Type 0
RunEntry table fuel r = Entry table (r ≡ packed 1 0) (RunsTo (from_bytes table) fuel r)
