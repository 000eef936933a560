-- What is proved of the formula table, in one place. Each promise is restated here over the definitions alone; the file that proves it is
-- the one that its proof cites. That the code's `binder` and `read` are their definitions stands in their contracts (src/).
use Rattle.std.specs.Prelude.{ℕ, ◌<◌, ◌≡◌, Some}
use Rattle.language.specs.Expression.{Name, Free, Closed}
use Rattle.table.specs.Node.{Nodes, Field, Kid}
use Rattle.table.specs.Walk.{climb}
use Rattle.table.specs.Scope.{scope, first_named}
use Rattle.table.specs.ExpressionOf.{shape, exp_at}
use Rattle.table.specs.Tree.{Descending, Tree, ClosedTree}
use Rattle.table.specs.TreeLaws as TreeLaws
use Rattle.table.specs.ExpressionLaws as ExpressionLaws
use Rattle.table.specs.ClosedFormula as ClosedFormula

-- ---- A tree

module _ {nd : Nodes} {n : ℕ} (t : Tree nd n) where
  -- What a walk carries at a child is one step of what it carries at the parent.
  climb_kid : {A : Type 0} (top : A) (step : ℕ → Field → A → A) {p c : ℕ} {f : Field} → p < n → Kid nd p f c → climb top step nd c ≡ step p f (climb top step nd p)
  climb_kid = TreeLaws.climb_kid t

  -- Induction from the root and from the leaves.
  down : (P : ℕ → Type 0) → P 0 → ((p : ℕ) (f : Field) (c : ℕ) → p < n → Kid nd p f c → P p → P c) → (k : ℕ) → k < n → P k
  down = TreeLaws.down t

  up : (P : ℕ → Type 0) → ((k : ℕ) → k < n → ((f : Field) (c : ℕ) → Kid nd k f c → P c) → P k) → (k : ℕ) → k < n → P k
  up = TreeLaws.up t

-- ---- The expression at a node

-- It is the node's shape over the expressions at its children, where these have greater numbers.
exp_is : {nd : Nodes} {n : ℕ} → Descending nd n → (k : ℕ) → k < n → exp_at nd n k ≡ shape (exp_at nd n) (nd k)
exp_is = ExpressionLaws.exp_is

-- ---- A tree in which every name is bound

module _ {nd : Nodes} {n : ℕ} (closed : ClosedTree nd n) where
  -- A free name of the expression at a node is bound in that node's scope.
  free_is_bound : (k : ℕ) → k < n → (x : Name) → Free x (exp_at nd n k) → (b : ℕ) × (first_named nd x (scope nd k) ≡ Some b)
  free_is_bound = ClosedFormula.free_is_bound closed

  -- So the root's expression is closed.
  root_closed : Closed (exp_at nd n 0)
  root_closed = ClosedFormula.root_closed closed
