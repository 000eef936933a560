-- An input of decimal words separated by white space.
use Rattle.std.specs.Prelude.{ℕ, ◌+◌, ◌*◌, ◌-◌, Bool, true, false, cond, ◌&&◌, ◌||◌, eqb, ltb, leb, length, Option, None, Some}
use mathlib.Core.List.{List, [], ◌∷◌, foldl}

-- ---- Tokens

-- White space: bytes 9, 10, 13, 32.
abbrev pub is_space : ℕ → Bool
is_space b = eqb b 9 || eqb b 10 || eqb b 13 || eqb b 32

-- A byte stands before the first of some runs.
abbrev pub longer : ℕ → List (List ℕ) → List (List ℕ)
longer b [] = (b ∷ []) ∷ []
longer b (run ∷ others) = (b ∷ run) ∷ others

abbrev pub after_byte : Bool → ℕ → List (List ℕ) → List (List ℕ)
after_byte true b others = [] ∷ others
after_byte false b others = longer b others

-- The longest runs of bytes that are no white space, with an empty run wherever white space stands at an end or beside white space.
unfoldable pub runs : List ℕ → List (List ℕ)
runs [] = [] ∷ []
runs (b ∷ bytes) = after_byte (is_space b) b (runs bytes)

unfoldable pub without_empty : List (List ℕ) → List (List ℕ)
without_empty [] = []
without_empty ([] ∷ others) = without_empty others
without_empty ((b ∷ run) ∷ others) = (b ∷ run) ∷ without_empty others

abbrev pub tokens : List ℕ → List (List ℕ)
tokens input = without_empty (runs input)

-- ---- Numbers

-- Bytes 48 to 57.
abbrev pub is_digit : ℕ → Bool
is_digit b = leb 48 b && ltb b 58

unfoldable pub all_digits : List ℕ → Bool
all_digits [] = true
all_digits (b ∷ bytes) = is_digit b && all_digits bytes

-- A number with one more digit behind it.
abbrev pub with_digit : ℕ → ℕ → ℕ
with_digit n b = n * 10 + (b - 48)

-- The number that digits write.
abbrev pub value_of : List ℕ → ℕ
value_of token = foldl with_digit 0 token

abbrev pub word_limit : ℕ
word_limit = 4294967296

-- A token of digits is the number that it writes, if that is below 4294967296. No other token is a number.
abbrev pub number_of : List ℕ → Option ℕ
number_of token = cond (all_digits token && ltb (value_of token) word_limit) (Some (value_of token)) None

abbrev pub both : Option ℕ → Option (List ℕ) → Option (List ℕ)
both None others = None
both (Some n) None = None
both (Some n) (Some ns) = Some (n ∷ ns)

-- The numbers of all tokens, if each is one.
unfoldable pub numbers_of : List (List ℕ) → Option (List ℕ)
numbers_of [] = Some []
numbers_of (token ∷ others) = both (number_of token) (numbers_of others)

-- ---- The words of an input

-- None if a token is no number, or there are more than so many.
abbrev pub words_in : ℕ → List ℕ → Option (List ℕ)
words_in most input = cond (leb (length (tokens input)) most) (numbers_of (tokens input)) None
