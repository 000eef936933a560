-- Slices whose first words are zero.
use Rattle.std.specs.Prelude.{ℕ, List, ◌++◌, drop, replicate}

abbrev pub zeros : ℕ → List ℕ
zeros n = replicate n 0

-- The first n words are zero, and the rest is untouched.
abbrev pub cleared : ℕ → List ℕ → List ℕ
cleared n words = zeros n ++ drop n words
