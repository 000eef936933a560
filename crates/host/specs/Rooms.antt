-- The lengths of what the entries read and lend on.
use Rattle.std.specs.Prelude.{ℕ, ◌*◌, ◌%◌, ◌≤◌, Bool, not, ◌||◌, List, eqb, ltb, length}

-- No multiple of 16, or more bytes than the 2,048 words of the largest table: code 1.
abbrev pub wrong_length : ℕ → Bool
wrong_length bytes = not (eqb (bytes % 16) 0) || ltb 8192 bytes

-- The type's words have room in the out bytes, and their count in a word.
pub record OutRoom (type_words out : List ℕ) : Type 0 where
  pub few : length type_words ≤ 1024
  pub within : 4 * length type_words ≤ length out
