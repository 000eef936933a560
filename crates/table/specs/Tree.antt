-- A table as a tree: the facts that all floors above use of it.
use Rattle.std.specs.Prelude.{ℕ, ◌<◌, ◌≡◌, Some}
use Rattle.language.specs.Expression.{Name}
use Rattle.table.specs.Node.{Nodes, name_node, Field, Kid}
use Rattle.table.specs.Scope.{scope, first_named}

-- Children have greater numbers than their parents and are among the n nodes. The expression at a node asks for no more.
pub record Descending (nd : Nodes) (n : ℕ) : Type 0 where
  pub greater : {p c : ℕ} {f : Field} → p < n → Kid nd p f c → p < c
  pub inside : {p c : ℕ} {f : Field} → p < n → Kid nd p f c → c < n

-- The n nodes below n are a tree with root 0.
pub record Tree (nd : Nodes) (n : ℕ) : Type 0 where
  pub root : 0 < n
  pub descending : Descending nd n
  pub parent : (c : ℕ) → 0 < c → c < n → (p : ℕ) × (f : Field) × (p < n) × Kid nd p f c
  pub one_parent : {p q c : ℕ} {f g : Field} → p < n → q < n → Kid nd p f c → Kid nd q g c → p ≡ q
  pub one_field : {p c : ℕ} {f g : Field} → p < n → Kid nd p f c → Kid nd p g c → f ≡ g

-- A tree in which every name is bound.
pub record ClosedTree (nd : Nodes) (n : ℕ) : Type 0 where
  pub tree : Tree nd n
  pub bound : {k : ℕ} {x : Name} → k < n → nd k ≡ name_node x → (b : ℕ) × (first_named nd x (scope nd k) ≡ Some b)
