-- A text that answers the input that was read.
use Rattle.std.specs.Prelude.{ℕ, ◌≤◌, ◌≡◌, length, take, Option}
use mathlib.Core.List.{List, flatten}
use Rattle.decimal.specs.Scan.{ScanState}
use Rattle.formula.specs.Program.{Prints}
use Rattle.formula.specs.Reading.{input_scanned, after_reads, Reads}

-- That is printed for every input that leads to the state.
pub record Responds (state : ScanState) (text : List ℕ) (n : ℕ) : Type 0 where
  pub inside : n ≤ length text
  pub to : (input : List ℕ) → input_scanned input ≡ state → Prints input (take n text)

-- The first n bytes of the text answer the input that was read, of which the last read answered that.
pub record AnswersInput (got : Option ℕ) (text : List ℕ) (n : ℕ) : Type 0 where
  pub reads : Reads got
  pub responds : Responds (after_reads got (flatten reads.pieces)) text n
