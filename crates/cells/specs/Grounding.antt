-- Does every cell evaluate? What the parts of the test do.
use Rattle.std.specs.Prelude.{ℕ, ◌+◌, ◌<◌, ◌≡◌, Bool, true, false, List, eqb}
use Rattle.language.specs.Ty.{Ty}
use Rattle.language.proofs.Count.{count}
use Rattle.cells.specs.Layout.{no_pair, pair_at, store_of, cells_in, Sound, SameCells}
use Rattle.cells.specs.Interface.{Unnumbered}
use Rattle.cells.specs.Cells.{Ev}
use Rattle.cells.specs.Grounded.{Leans}
use Rattle.cells.specs.declared.memory.Pair.{Pair}

-- ---- Marks

-- The left word beside a cell is its mark.
abbrev pub no_mark : Pair → Bool
no_mark p = eqb p.left 0

abbrev pub unmarked : List ℕ → ℕ → Bool
unmarked mem i = no_mark (pair_at mem i)

-- Cell i of the slice is not marked.
abbrev pub Waits : List ℕ → ℕ → Type 0
Waits mem i = (i < cells_in mem) × (unmarked mem i ≡ true)

abbrev pub Evaluates : List ℕ → ℕ → Type 0
Evaluates mem i = (t : Ty) × Ev (store_of mem) i t

-- Only cells that evaluate are marked.
pub record Marking (mem : List ℕ) : Type 0 where
  pub ready : Unnumbered mem
  pub evaluates : (i : ℕ) → unmarked mem i ≡ false → Evaluates mem i

-- A cell of the slice besides.
pub record MarkingAt (mem : List ℕ) (i : ℕ) : Type 0 where
  pub marking : Marking mem
  pub inside : i < cells_in mem

-- Cell i leans on an unmarked cell, or it evaluates.
abbrev pub LeansOrEvaluates : List ℕ → ℕ → Bool → Type 0
LeansOrEvaluates mem i true = Leans (store_of mem) (Waits mem) i
LeansOrEvaluates mem i false = Evaluates mem i

-- Each unmarked cell of D leans on an unmarked cell.
abbrev pub Settled : List ℕ → (ℕ → Type 0) → Type 0
Settled mem D = (i : ℕ) → D i → unmarked mem i ≡ true → Leans (store_of mem) (Waits mem) i

-- ---- Writes of marks

-- Nothing stands beside the first n cells.
pub record UnmarkedBelow (before after : List ℕ) (n : ℕ) : Type 0 where
  pub same : SameCells before after
  pub sound : Sound after
  pub clear : (i : ℕ) → i < n → pair_at after i ≡ no_pair

-- Nothing stands beside any cell.
pub record Unmarked (mem : List ℕ) : Type 0 where
  pub sound : Sound mem
  pub clear : (i : ℕ) → pair_at mem i ≡ no_pair

-- So many cells were marked. If none, then nothing was written, and the cells of D are settled.
pub record Progress (D : ℕ → Type 0) (before after : List ℕ) (new : ℕ) : Type 0 where
  pub same : SameCells before after
  pub marking : Marking after
  pub counted : new + count (unmarked after) (cells_in before) ≡ count (unmarked before) (cells_in before)
  pub idle : new ≡ 0 → (after ≡ before) × Settled before D
