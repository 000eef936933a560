-- Numbers as they are printed.
use Rattle.std.specs.Prelude.{ℕ, zero, suc, ◌+◌, ◌/◌, ◌%◌, ◌≢◌, cond, List, [], ◌∷◌, ◌++◌, ltb, ℤ, pos, negsuc}

-- The byte of a digit.
abbrev pub digit_byte : ℕ → ℕ
digit_byte d = 48 + d

-- The digits of a number that has at most so many.
unfoldable pub digits_within : ℕ → ℕ → List ℕ
digits_within zero n = []
digits_within (suc most) n =
    let longer = digits_within most (n / 10) ++ digit_byte (n % 10) ∷ [] in
    cond (ltb n 10) (digit_byte n ∷ []) longer

-- A number in decimal. It has no more digits than n + 1.
unfoldable pub decimal : ℕ → List ℕ
decimal n = digits_within (suc n) n

-- An integer, with `-` before it if it is negative.
abbrev pub signed_decimal : ℤ → List ℕ
signed_decimal (pos n) = decimal n
signed_decimal (negsuc n) = 45 ∷ decimal (suc n)

-- Each text with a space before it.
unfoldable pub spaced : List (List ℕ) → List ℕ
spaced [] = []
spaced (text ∷ others) = 32 ∷ text ++ spaced others

-- Digits that do not begin with 0.
pub data NoZeroFirst : List ℕ → Type 0 where
  first_is : {b : ℕ} {bytes : List ℕ} → b ≢ digit_byte 0 → NoZeroFirst (b ∷ bytes)
