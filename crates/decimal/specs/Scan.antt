-- The input byte by byte, from the left. The words that are read stand at the beginning of a slice.
use Rattle.std.specs.Prelude.{ℕ, ◌+◌, Bool, true, false, cond, ltb, length, take, set, Option, None, Some}
use mathlib.Core.List.{List, foldl}
use Rattle.decimal.specs.Input.{is_space, is_digit, with_digit, word_limit}
use Rattle.decimal.specs.declared.Scanner.{Scanner}
use Rattle.decimal.specs.declared.Scanner.TheVariants.{Failed, Between, Inside}

-- Where a scan stands, and its slice.
pub data ScanState : Type 0 where
  stands : Scanner → List ℕ → ScanState

abbrev pub slice : ScanState → List ℕ
slice (stands s words) = words

-- One more word, if the slice has a place for it.
abbrev pub with_word : ℕ → ℕ → List ℕ → ScanState
with_word count value words = cond (ltb count (length words)) (stands (Between (count + 1)) (set words count value)) (stands Failed words)

-- White space ends the token under way.
abbrev pub space_read : Scanner → List ℕ → ScanState
space_read Failed words = stands Failed words
space_read (Between count) words = stands (Between count) words
space_read (Inside count value) words = with_word count value words

-- One more byte of a token whose value so far is that.
abbrev pub in_token : ℕ → ℕ → ℕ → Scanner
in_token count value b = cond (is_digit b) (cond (ltb (with_digit value b) word_limit) (Inside count (with_digit value b)) Failed) Failed

-- Any other byte belongs to a token.
abbrev pub other_read : Scanner → ℕ → Scanner
other_read Failed b = Failed
other_read (Between count) b = in_token count 0 b
other_read (Inside count value) b = in_token count value b

unfoldable pub scan_byte : ScanState → ℕ → ScanState
scan_byte (stands s words) b = cond (is_space b) (space_read s words) (stands (other_read s b) words)

-- Where an input leads from its beginning.
abbrev pub scanned : List ℕ → List ℕ → ScanState
scanned words input = foldl scan_byte (stands (Between 0) words) input

-- The end of the input ends the token under way, as white space does.
abbrev pub finish : ScanState → ScanState
finish (stands s words) = space_read s words

-- ---- The words so far

abbrev pub has_failed : Scanner → Bool
has_failed Failed = true
has_failed (Between count) = false
has_failed (Inside count value) = false

abbrev pub count_of : Scanner → ℕ
count_of Failed = 0
count_of (Between count) = count
count_of (Inside count value) = count

-- At the end, these are the words of the input.
abbrev pub words_at : ScanState → Option (List ℕ)
words_at (stands s words) = cond (has_failed s) None (Some (take (count_of s) words))
