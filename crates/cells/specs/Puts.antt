-- Writes of a cell and of a pair beside one.
use Rattle.std.specs.Prelude.{ℕ, ◌≡◌, ◌≢◌, List, length}
use Rattle.cells.specs.Layout.{words_at, pair_at}
use Rattle.cells.specs.declared.memory.Pair.{Pair}
use Rattle.cells.specs.declared.memory.Words.{Words}

-- Cell i was written, and nothing else.
pub record CellPut (before after : List ℕ) (i : ℕ) (w : Words) : Type 0 where
  pub same_length : length after ≡ length before
  pub there : words_at after i ≡ w
  pub others : (j : ℕ) → j ≢ i → words_at after j ≡ words_at before j
  pub pairs : (j : ℕ) → pair_at after j ≡ pair_at before j

-- The pair beside cell i was written, and nothing else.
pub record PairPut (before after : List ℕ) (i : ℕ) (p : Pair) : Type 0 where
  pub same_length : length after ≡ length before
  pub there : pair_at after i ≡ p
  pub others : (j : ℕ) → j ≢ i → pair_at after j ≡ pair_at before j
  pub cells : (j : ℕ) → words_at after j ≡ words_at before j
