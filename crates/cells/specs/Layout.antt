-- Type cells in a lent slice: five words each. The first three say what the cell says of its type; the other two are used beside that, by
-- the solver for a pending pair, by the grounding for a mark, and by the writer for a variable's number.
use Rattle.std.specs.Prelude.{ℕ, ◌+◌, ◌*◌, ◌/◌, ◌≤◌, ◌<◌, ◌≡◌, List, [], ◌∷◌, length, get_or}
use Rattle.cells.specs.Cells.{Store}
use Rattle.cells.specs.declared.TypeCell.{TypeCell}
use Rattle.cells.specs.declared.TypeCell.TheVariants.{Free, Link, UnitType, BoolType, IntType, Arrow}
use Rattle.cells.specs.declared.memory.Pair.{Pair}
use Rattle.cells.specs.declared.memory.Words.{Words}

-- ---- What the words stand for

abbrev pub words_at : List ℕ → ℕ → Words
words_at mem i = record { tag = get_or mem (5 * i) 0; a = get_or mem (5 * i + 1) 0; b = get_or mem (5 * i + 2) 0 }

-- Tags 0 to 5.
abbrev pub cell_in : Words → TypeCell
cell_in w = get_or (Free ∷ Link w.a ∷ UnitType ∷ BoolType ∷ IntType ∷ Arrow w.a w.b ∷ []) w.tag Free

-- Words that a cell has no use for are written as 0.
abbrev pub as_words : TypeCell → Words
as_words Free = record { tag = 0; a = 0; b = 0 }
as_words (Link j) = record { tag = 1; a = j; b = 0 }
as_words UnitType = record { tag = 2; a = 0; b = 0 }
as_words BoolType = record { tag = 3; a = 0; b = 0 }
as_words IntType = record { tag = 4; a = 0; b = 0 }
as_words (Arrow l r) = record { tag = 5; a = l; b = r }

abbrev pub cell_at : List ℕ → ℕ → TypeCell
cell_at mem i = cell_in (words_at mem i)

abbrev pub pair_at : List ℕ → ℕ → Pair
pair_at mem i = record { left = get_or mem (5 * i + 3) 0; right = get_or mem (5 * i + 4) 0 }

-- Nothing stands beside a cell.
abbrev pub no_pair : Pair
no_pair = record { left = 0; right = 0 }

-- Cells past the end are free.
unfoldable pub store_of : List ℕ → Store
store_of mem i = cell_at mem i

abbrev pub cells_in : List ℕ → ℕ
cells_in mem = length mem / 5

-- What cell i of n may say: a link leads down, and the parts of an arrow are among the n.
abbrev pub MaySay : ℕ → ℕ → TypeCell → Type 0
MaySay n i Free = Unit
MaySay n i (Link j) = j < i
MaySay n i UnitType = Unit
MaySay n i BoolType = Unit
MaySay n i IntType = Unit
MaySay n i (Arrow l r) = (l < n) × (r < n)

-- The words that may stand in it: their tag is known besides.
pub record Allowed (n i : ℕ) (w : Words) : Type 0 where
  pub tag_known : w.tag ≤ 5
  pub may_say : MaySay n i (cell_in w)

-- The words are those of whole cells, so few that no sum of their numbers can wrap.
pub record Sound (mem : List ℕ) : Type 0 where
  pub whole : length mem ≡ 5 * cells_in mem
  pub small : cells_in mem ≤ 4096
  pub allowed : (i : ℕ) → Allowed (cells_in mem) i (words_at mem i)

-- At most what stands beside cells has changed.
pub record SameCells (before after : List ℕ) : Type 0 where
  pub same_length : length after ≡ length before
  pub cells : (i : ℕ) → words_at after i ≡ words_at before i
