-- A scan's slice keeps its length.
use Rattle.std.specs.Prelude.{ℕ, ◌+◌, ◌≡◌, refl, Bool, true, false, cond, ltb, length, set}
use Rattle.std.proofs.Common.{◌∙◌, length-set}
use mathlib.Core.List.{List, [], ◌∷◌, foldl}
use Rattle.decimal.specs.Input.{is_space}
use Rattle.decimal.specs.Scan.{ScanState, stands, slice, space_read, other_read, scan_byte}
use Rattle.decimal.specs.declared.Scanner.{Scanner}
use Rattle.decimal.specs.declared.Scanner.TheVariants.{Failed, Between, Inside}

space_keeps_length : (s : Scanner) (words : List ℕ) → length (slice (space_read s words)) ≡ length words
space_keeps_length Failed words = refl
space_keeps_length (Between count) words = refl
space_keeps_length (Inside count value) words = go (ltb count (length words))
  where
    go : (room : Bool) → length (slice (cond room (stands (Between (count + 1)) (set words count value)) (stands Failed words))) ≡ length words
    go true = length-set words count value
    go false = refl

byte_keeps_length : (s : ScanState) (b : ℕ) → length (slice (scan_byte s b)) ≡ length (slice s)
unfolding scan_byte
byte_keeps_length (stands s words) b = go (is_space b)
  where
    go : (space : Bool) → length (slice (cond space (space_read s words) (stands (other_read s b) words))) ≡ length words
    go true = space_keeps_length s words
    go false = refl

pub scan_keeps_length : (s : ScanState) (input : List ℕ) → length (slice (foldl scan_byte s input)) ≡ length (slice s)
scan_keeps_length s [] = refl
scan_keeps_length s (b ∷ input) = scan_keeps_length (scan_byte s b) input ∙ byte_keeps_length s b
