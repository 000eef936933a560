-- A row of the bench: a call on a formula table, and the numbers that the rules state of its answer. A row holds if every answer that
-- the call's contract allows begins with these numbers, whatever words the lent slices hold.
use Rattle.std.specs.Prelude.{ℕ, ◌≤◌, ◌≡◌, Result, Ok, Err, List, [], ◌∷◌, length, take}
use Rattle.table.specs.Node.{count_of}
use Rattle.answers.specs.Answers as Run
use Rattle.machine.specs.Runs.{capacity_of, RunIs}
use Rattle.machine.specs.declared.Ran.{Ran}
use Rattle.inference.specs.Inference as Inference
use Rattle.inference.specs.Inference.{work_for, After, Infers}
use Rattle.inference.specs.declared.Untyped.{Untyped}

-- ---- The rows

pub data Call : Type 0 where
  -- Inference, with an out slice of so many words.
  inference : (out : ℕ) → Call
  -- A run, with so much fuel, and room for so many bindings and frames.
  run : (fuel bindings frames : ℕ) → Call

-- The numbers are the first ones of the line that the program prints; those that follow are not stated.
pub record Row : Type 0 where
  pub table : List ℕ
  pub call : Call
  pub stated : List ℕ

-- ---- The lines

-- The words of a type stand at the beginning of the out slice.
abbrev type_in : List ℕ → Result ℕ Untyped → List ℕ
type_in out (Ok count) = take count out
type_in out (Err untyped) = []

-- CODE PLACE, and the words of the type.
abbrev pub type_numbers : After → List ℕ
type_numbers a = Inference.code_of a.answer ∷ Inference.place_of a.answer ∷ type_in a.out a.answer

-- CODE PAYLOAD STEPS BINDINGS, where an integer is its pattern of 32 bits.
abbrev pub run_numbers : Ran → List ℕ
run_numbers r = Run.code_of r.answer ∷ Run.payload_of r.answer ∷ r.steps ∷ r.bindings ∷ []

-- So many of a line's first numbers as are stated.
abbrev pub as_far : List ℕ → List ℕ → List ℕ
as_far stated line = take (length stated) line

-- ---- What a row says of the calls

-- Of inference, with any work slice of 24 × nodes + 16 words or more.
pub record InferenceGives (words : List ℕ) (room : ℕ) (stated : List ℕ) : Type 0 where
  pub always : {work out : List ℕ} {a : After} → work_for (count_of words) ≤ length work → length out ≡ room → Infers words work out a → as_far stated (type_numbers a) ≡ stated

pub record RunGives (words : List ℕ) (fuel binding_room frame_room : ℕ) (stated : List ℕ) : Type 0 where
  pub always : {bindings frames bindings' frames' : List ℕ} {r : Ran} → capacity_of (length bindings) ≡ binding_room → capacity_of (length frames) ≡ frame_room →
      RunIs words fuel bindings frames bindings' frames' r → as_far stated (run_numbers r) ≡ stated

abbrev pub CallGives : List ℕ → Call → List ℕ → Type 0
CallGives words (inference out) stated = InferenceGives words out stated
CallGives words (run fuel bindings frames) stated = RunGives words fuel bindings frames stated

abbrev pub Holds : Row → Type 0
Holds row = CallGives row.table row.call row.stated

abbrev pub Each : {A : Type 0} → (A → Type 0) → List A → Type 0
Each P [] = Unit {0}
Each P (x ∷ xs) = P x × Each P xs
