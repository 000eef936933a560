-- Words as bytes, and words put in the place of others.
use Rattle.std.specs.Prelude.{ℕ, ◌+◌, ◌*◌, ◌/◌, ◌%◌, List, [], ◌∷◌, ◌++◌}
use Rattle.std.proofs.lemmas.List.Edits.{sets}

-- A word by its four bytes, the least first.
abbrev pub word_of : ℕ → ℕ → ℕ → ℕ → ℕ
word_of a b c d = a + 256 * b + 65536 * c + 16777216 * d

-- Four bytes make a word; a part of a word at the end does not count.
unfoldable pub from_bytes : List ℕ → List ℕ
from_bytes (a ∷ b ∷ c ∷ d ∷ rest) = word_of a b c d ∷ from_bytes rest
from_bytes (a ∷ b ∷ c ∷ []) = []
from_bytes (a ∷ b ∷ []) = []
from_bytes (a ∷ []) = []
from_bytes [] = []

-- The four bytes of a word, the least first.
abbrev pub bytes_of : ℕ → List ℕ
bytes_of w = w % 256 ∷ w / 256 % 256 ∷ w / 65536 % 256 ∷ w / 16777216 % 256 ∷ []

unfoldable pub to_bytes : List ℕ → List ℕ
to_bytes [] = []
to_bytes (w ∷ words) = bytes_of w ++ to_bytes words

-- The new stand in the place of the first of the old, as far as they fit.
abbrev pub overwrite : List ℕ → List ℕ → List ℕ
overwrite new old = sets old 0 new
