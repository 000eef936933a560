-- The input as it is read: the pieces that came, and why no other was read. A read answers how many bytes came, or none if it failed.
use Rattle.std.specs.Prelude.{ℕ, ◌≡◌, ◌≢◌, length, replicate, Option, Some, None}
use mathlib.Core.List.{List, [], ◌∷◌, ◌++◌, flatten}
use Rattle.decimal.specs.Scan.{ScanState, stands, slice, scanned}
use Rattle.decimal.specs.declared.Scanner.TheVariants.{Failed}

pub data NoneEmpty : List (List ℕ) → Type 0 where
  no_piece : NoneEmpty []
  one_more : {b : ℕ} {piece : List ℕ} {pieces : List (List ℕ)} → NoneEmpty pieces → NoneEmpty ((b ∷ piece) ∷ pieces)

-- The words of an input are read into a slice of 2,048.
abbrev pub input_scanned : List ℕ → ScanState
input_scanned input = scanned (replicate 2048 0) input

-- Without an end no input has words.
abbrev pub given_up : ScanState → ScanState
given_up s = stands Failed (slice s)

-- Where a scan stands after reads that gave that input, by what the last of them answered.
abbrev pub after_reads : Option ℕ → List ℕ → ScanState
after_reads (Some n) input = input_scanned input
after_reads None input = given_up (input_scanned input)

-- Why there is no further read, by the pieces and what the last read answered.
pub data ReadingEnds (pieces : List (List ℕ)) (got : Option ℕ) : Type 0 where
  -- The input is at its end.
  at_the_end : got ≡ Some 0 → ReadingEnds pieces got
  -- No byte more can change the answer.
  scan_failed : {words : List ℕ} → input_scanned (flatten pieces) ≡ stands Failed words → ReadingEnds pieces got
  read_failed : got ≡ None → ReadingEnds pieces got
  -- So many reads were made, and each gave some bytes.
  turns_used_up : length pieces ≡ 18446744073709551616 → ReadingEnds pieces got

-- Reads, the last of which answered that: the pieces that came, one after the other, and why no other was read.
pub record Reads (got : Option ℕ) : Type 0 where
  pub pieces : List (List ℕ)
  pub none_empty : NoneEmpty pieces
  pub ends : ReadingEnds pieces got

-- What is left to the system: the pieces are the beginning of that input, no read failed, and one that gave nothing was at its end.
pub record PiecesOf (input : List ℕ) (pieces : List (List ℕ)) (got : Option ℕ) : Type 0 where
  pub rest : List ℕ
  pub begins : input ≡ flatten pieces ++ rest
  pub at_its_end : got ≡ Some 0 → rest ≡ []
  pub none_failed : got ≢ None
