-- The cells of a tree of nodes: four constants, then two for each node, for its type and for the type of the name that it binds. So the cell
-- of an unknown is its number and 4.
use Rattle.std.specs.Prelude.{ℕ, ◌+◌, ◌*◌, ◌≤◌, ◌<◌, ◌≡◌, cond, List, ltb, length}
use Rattle.language.specs.Ty.{Subst}
use Rattle.language.specs.Unification.{Solves}
use Rattle.table.specs.Node.{node_at, count_of}
use Rattle.table.specs.Scope.{binder_of}
use Rattle.table.specs.Tree.{ClosedTree}
use Rattle.equations.specs.Equations.{node_var, name_var, name_equations, equations_at, equations_below}
use Rattle.cells.specs.Cells.{Sat}
use Rattle.cells.specs.Layout.{store_of, cells_in, Sound}
use Rattle.cells.specs.Starting.{Constants}
use Rattle.inference.specs.Inference.{work_for}

-- ---- Cells

abbrev pub type_cell : ℕ → ℕ
type_cell k = node_var k + 4

abbrev pub name_cell : ℕ → ℕ
name_cell k = name_var k + 4

-- Both cells of node k are there.
abbrev pub HasNode : List ℕ → ℕ → Type 0
HasNode mem k = name_cell k < cells_in mem

-- The cell of what an operator gives after one integer.
abbrev pub gives_cell : ℕ → ℕ
gives_cell o = cond (ltb o 5) 2 3

-- The words of n nodes' cells.
abbrev pub cell_words : ℕ → ℕ
cell_words n = 5 * (2 * n + 4)

pub record CellsFor (n : ℕ) (mem : List ℕ) : Type 0 where
  pub sound : Sound mem
  pub whole : length mem ≡ cell_words n
  pub constants : (ρ : Subst) → Sat ρ (store_of mem) → Constants ρ

-- ---- Equations

-- What a valuation of the cells says of the unknowns.
abbrev pub unknowns : Subst → Subst
unknowns ρ α = ρ (α + 4)

-- It solves the equations of node k of a table,
abbrev pub NodeSolved : List ℕ → ℕ → Subst → Type 0
NodeSolved words k ρ = Solves (unknowns ρ) (equations_at (node_at words) k (node_at words k))

-- those of a name,
abbrev pub NameSolved : List ℕ → ℕ → Subst → Type 0
NameSolved words k ρ = Solves (unknowns ρ) (name_equations k (binder_of (node_at words) k))

-- and those of the nodes below k.
abbrev pub NodesSolved : List ℕ → ℕ → Subst → Type 0
NodesSolved words k ρ = Solves (unknowns ρ) (equations_below (node_at words) k)

-- ---- Trees

-- The words are those of n nodes, and these are a tree.
pub record TreeIn (words : List ℕ) (n : ℕ) : Type 0 where
  pub counted : n ≡ count_of words
  pub closed : ClosedTree (node_at words) n

-- A tree with cells for it; and a node of it.
pub record NodesReady (words : List ℕ) (n : ℕ) (mem : List ℕ) : Type 0 where
  pub tree_in : TreeIn words n
  pub cells : CellsFor n mem

pub record NodeReady (words : List ℕ) (k : ℕ) (mem : List ℕ) : Type 0 where
  pub nodes : ℕ
  pub tree_in : TreeIn words nodes
  pub below : k < nodes
  pub cells : CellsFor nodes mem

-- A tree with a slice of words for its cells, or of work. It is small, so that cells have small numbers.
pub record TreeRoom (words : List ℕ) (n : ℕ) (mem : List ℕ) : Type 0 where
  pub tree_in : TreeIn words n
  pub small : n ≤ 512
  pub whole : length mem ≡ cell_words n

pub record WorkRoom (words : List ℕ) (n : ℕ) (work : List ℕ) : Type 0 where
  pub tree_in : TreeIn words n
  pub small : n ≤ 512
  pub whole : length work ≡ work_for n
