-- The lines that the program prints.
use Rattle.std.specs.Prelude.{ℕ, Result, Ok, Err, List, [], ◌∷◌, ◌++◌, map, take, ℤ}
use Rattle.std.specs.Int.{w32}
use Rattle.std.proofs.Common.{to_z}
use Rattle.inference.specs.Inference.{code_of as type_code, place_of}
use Rattle.inference.specs.declared.Untyped.{Untyped}
use Rattle.answers.specs.Answers.{code_of as run_code, payload_of}
use Rattle.answers.specs.declared.Answer.{Answer}
use Rattle.machine.specs.declared.Ran.{Ran}
use Rattle.decimal.specs.Decimal.{decimal, signed_decimal, spaced}

-- A line: single spaces between its texts, and byte 10 at the end.
abbrev pub line : List ℕ → List (List ℕ) → List ℕ
line first others = first ++ spaced others ++ 10 ∷ []

-- ---- `type CODE PLACE`, followed by the type's words on code 0

-- The bytes of `type`.
abbrev pub type_text : List ℕ
type_text = 116 ∷ 121 ∷ 112 ∷ 101 ∷ []

abbrev pub type_words : Result ℕ Untyped → List ℕ → List ℕ
type_words (Ok count) out = take count out
type_words (Err untyped) out = []

abbrev pub type_line : Result ℕ Untyped → List ℕ → List ℕ
type_line answer out = line type_text (decimal (type_code answer) ∷ decimal (place_of answer) ∷ map decimal (type_words answer out))

-- ---- `run CODE PAYLOAD STEPS BINDINGS`

-- The bytes of `run`.
abbrev pub run_text : List ℕ
run_text = 114 ∷ 117 ∷ 110 ∷ []

-- The signed integer, the boolean as 0 or 1, the node of codes 2, 3, 4 and 16, else 0: what a run answers, with its bits read as signed. That
-- changes an integer only (`PrintedPayload`).
abbrev pub printed_payload : Answer → ℤ
printed_payload answer = to_z w32 (payload_of answer)

abbrev pub run_line : Ran → List ℕ
run_line ran = line run_text (decimal (run_code ran.answer) ∷ signed_decimal (printed_payload ran.answer) ∷ decimal ran.steps ∷ decimal ran.bindings ∷ [])

-- ---- `input`

-- The bytes of `input`.
abbrev pub input_text : List ℕ
input_text = 105 ∷ 110 ∷ 112 ∷ 117 ∷ 116 ∷ []

abbrev pub input_line : List ℕ
input_line = line input_text []
