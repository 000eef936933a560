-- What the words of a formula and of a type say, computed: the operators by their numbers on numbers below, at and above one another,
-- integers by their patterns, and the words of a type.
use Rattle.std.specs.Prelude.{◌≡◌, refl, true, false, List, [], ◌∷◌, map, ℤ, pos, negsuc}
use Rattle.language.specs.Integers.{Outcome, number, truth, meaning}
use Rattle.language.specs.Numbers.{operators, signed, pattern}
use Rattle.language.specs.Ty.{unit, bool, int, ◌⇒◌, var}
use Rattle.language.specs.WrittenForm.{is_among, appearing, place_in, spell, words_of}

abbrev results : ℤ → ℤ → List Outcome
results m n = map (λ o. meaning o m n) operators

-- + - * / mod < > <= >= = of -7 and 2
below : results (negsuc 6) (pos 2) ≡
    number (negsuc 4) ∷ number (negsuc 8) ∷ number (negsuc 13) ∷ number (negsuc 2) ∷ number (negsuc 0) ∷
    truth true ∷ truth false ∷ truth true ∷ truth false ∷ truth false ∷ []
unfolding meaning
below = refl

-- of 3 and 3
equal_numbers : results (pos 3) (pos 3) ≡
    number (pos 6) ∷ number (pos 0) ∷ number (pos 9) ∷ number (pos 1) ∷ number (pos 0) ∷
    truth false ∷ truth false ∷ truth true ∷ truth true ∷ truth true ∷ []
unfolding meaning
equal_numbers = refl

-- The greatest and the least integer, and -1.
patterns : (map signed (2147483647 ∷ 2147483648 ∷ 4294967295 ∷ []) ≡ pos 2147483647 ∷ negsuc 2147483647 ∷ negsuc 0 ∷ [])
    × (map pattern (pos 2147483647 ∷ negsuc 2147483647 ∷ negsuc 0 ∷ []) ≡ 2147483647 ∷ 2147483648 ∷ 4294967295 ∷ [])
patterns = (refl, refl)

-- (α → β → unit) → β → bool → int → α, whatever the numbers of α and β.
type_words : words_of ((var 7 ⇒ var 3 ⇒ unit) ⇒ var 3 ⇒ bool ⇒ int ⇒ var 7) ≡
    4 ∷ 4 ∷ 16 ∷ 4 ∷ 17 ∷ 1 ∷ 4 ∷ 17 ∷ 4 ∷ 2 ∷ 4 ∷ 3 ∷ 16 ∷ []
unfolding words_of spell appearing place_in is_among
type_words = refl
