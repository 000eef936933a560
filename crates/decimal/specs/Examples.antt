-- Inputs and numbers, computed.
use Rattle.std.specs.Prelude.{◌≡◌, refl, [], ◌∷◌, None, Some}
use Rattle.std.specs.Int.{w32}
use Rattle.std.proofs.Common.{to_z}
use Rattle.decimal.specs.Input.{runs, without_empty, all_digits, numbers_of, words_in}
use Rattle.decimal.specs.Decimal.{digits_within, decimal, signed_decimal}

-- ---- Inputs

-- No input, and white space alone: no word, and no failure.
empty_input : words_in 2048 [] ≡ Some []
unfolding runs without_empty numbers_of
empty_input = refl

white_space : words_in 2048 (32 ∷ 9 ∷ 13 ∷ 10 ∷ []) ≡ Some []
unfolding runs without_empty numbers_of
white_space = refl

-- `7`, tab, `010`: leading zeros are allowed.
two_words : words_in 2048 (55 ∷ 9 ∷ 48 ∷ 49 ∷ 48 ∷ []) ≡ Some (7 ∷ 10 ∷ [])
unfolding runs without_empty numbers_of all_digits
two_words = refl

greatest_word : words_in 2048 (52 ∷ 50 ∷ 57 ∷ 52 ∷ 57 ∷ 54 ∷ 55 ∷ 50 ∷ 57 ∷ 53 ∷ []) ≡ Some (4294967295 ∷ [])
unfolding runs without_empty numbers_of all_digits
greatest_word = refl

-- 4294967296
past_the_greatest : words_in 2048 (52 ∷ 50 ∷ 57 ∷ 52 ∷ 57 ∷ 54 ∷ 55 ∷ 50 ∷ 57 ∷ 54 ∷ []) ≡ None
unfolding runs without_empty numbers_of all_digits
past_the_greatest = refl

-- `-1`
sign_before : words_in 2048 (45 ∷ 49 ∷ []) ≡ None
unfolding runs without_empty numbers_of all_digits
sign_before = refl

-- Three words where there is room for two.
one_too_many : words_in 2 (55 ∷ 32 ∷ 55 ∷ 32 ∷ 55 ∷ []) ≡ None
unfolding runs without_empty numbers_of all_digits
one_too_many = refl

-- ---- Numbers

-- `-2147483648`
least_integer : signed_decimal (to_z w32 2147483648) ≡ 45 ∷ 50 ∷ 49 ∷ 52 ∷ 55 ∷ 52 ∷ 56 ∷ 51 ∷ 54 ∷ 52 ∷ 56 ∷ []
unfolding decimal digits_within
least_integer = refl
