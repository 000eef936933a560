-- What becomes of the bytes of one read, whatever it answers, and of all reads one after the other.
use Rattle.std.specs.Prelude.{ℕ, zero, suc, ◌≤◌, ◌≡◌, Bool, false, not, length, take, Option, Some, None, IfSome}
use mathlib.Core.List.{List, foldl, flatten}
use Rattle.decimal.specs.Scan.{ScanState, scan_byte, has_failed}
use Rattle.decimal.specs.declared.Scanner.{Scanner}
use Rattle.formula.specs.Reading.{given_up, after_reads, Reads}

-- Where a scan stands after a read: exactly the bytes that came are taken in.
abbrev pub after_read : ScanState → Option ℕ → List ℕ → ScanState
after_read start (Some n) piece = foldl scan_byte start (take n piece)
after_read start None piece = given_up start

-- There is a further read exactly if some bytes came and the scan has not failed.
abbrev pub reads_on : Option ℕ → Scanner → Bool
reads_on (Some zero) s = false
reads_on (Some (suc n)) s = not (has_failed s)
reads_on None s = false

-- The answer is within the piece, and the scan took in what came.
pub record PieceRead (start : ScanState) (piece : List ℕ) (got : Option ℕ) (last : ScanState) : Type 0 where
  pub moved : IfSome got (λ n. n ≤ length piece)
  pub leads : last ≡ after_read start got piece

-- The scan went through all that was read.
pub record InputRead (got : Option ℕ) (last : ScanState) : Type 0 where
  pub reads : Reads got
  pub leads : last ≡ after_reads got (flatten reads.pieces)
