-- A tree in which every name is bound stands for a closed expression. What is free at a node is bound in the node's scope, and the root's scope is empty.
use Rattle.std.specs.Prelude.{ℕ, ◌<◌, ◌≡◌, ◌≢◌, Bool, eqb, Some}
use Rattle.std.proofs.Math.Path.{refl, sym}
use Rattle.std.proofs.Common.{◌∙◌, inl, inr, arith, ne_eqb}
use Rattle.std.proofs.Math.Bool.{true, false, cond}
use mathlib.Core.List.{[], ◌∷◌}
use Rattle.language.specs.Expression.{Name, Free, Closed}
use Rattle.table.specs.Node.{Node, Nodes, constant_node, name_node, application_node, if_node, lambda_node, let_node, rec_node, Field, field_a, field_b, field_c, child, Kid}
use Rattle.table.specs.Scope.{binds_in, enter, scope, is_named, first_named}
use Rattle.table.specs.ExpressionOf.{shape, exp_at}
use Rattle.table.specs.Tree.{Tree, ClosedTree}
use Rattle.table.specs.TreeLaws.{climb_root, climb_kid, up}
use Rattle.table.specs.ExpressionLaws.{exp_is}

abbrev Bound : Nodes → ℕ → Name → Type 0
Bound nd k x = (b : ℕ) × (first_named nd x (scope nd k) ≡ Some b)

-- Does the node bind x in the child in that field?
abbrev binds_name_in : Name → Node → Field → Bool
binds_name_in x node f = cond (binds_in node f) (is_named x node) false

module _ {nd : Nodes} {n : ℕ} (t : Tree nd n) where
  -- What a node does not bind in its child is bound around it, if it is bound at the child.
  bound_around : {k c : ℕ} {f : Field} (x : Name) → k < n → Kid nd k f c → binds_name_in x (nd k) f ≡ false → Bound nd c x → Bound nd k x
  unfolding first_named
  bound_around {k} {c} {f} x below kid other bound =
      let (b, e) = bound in
      (b, sym (same (binds_in (nd k) f) other) ∙ (rw (climb_kid t [] (enter nd) below kid) at e))
    where
      same : (i : Bool) → cond i (is_named x (nd k)) false ≡ false → first_named nd x (cond i (k ∷ scope nd k) (scope nd k)) ≡ first_named nd x (scope nd k)
      same true h = rw h
      same false h = refl

module _ {nd : Nodes} {n : ℕ} (closed : ClosedTree nd n) where
  abbrev FreeIsBound : ℕ → Type 0
  FreeIsBound k = (x : Name) → Free x (exp_at nd n k) → Bound nd k x

  from_children : (k : ℕ) → k < n → ((f : Field) (c : ℕ) → Kid nd k f c → FreeIsBound c) → FreeIsBound k
  from_children k below kids x free = at (nd k) refl (rw (exp_is closed.tree.descending k below) at free)
    where
      by : {node : Node} {c : ℕ} (f : Field) → nd k ≡ node → child node f ≡ Some c → binds_name_in x node f ≡ false → Free x (exp_at nd n c) → Bound nd k x
      by {node} {c} f e stands other h =
          let kid : Kid nd k f c = record { stands = rw e stands } in
          bound_around closed.tree x below kid (rw e other) (kids f c kid x h)

      other_name : {y : Name} → x ≢ y → eqb y x ≡ false
      other_name {y} h = ne_eqb y x (λ q. h (sym q))

      at : (node : Node) → nd k ≡ node → Free x (shape (exp_at nd n) node) → Bound nd k x
      at (constant_node k) e h = absurd h
      at (name_node y) e h = closed.bound below (rw h e)
      at (application_node l r) e (inl h) = by field_a e refl refl h
      at (application_node l r) e (inr h) = by field_b e refl refl h
      at (if_node e₀ e₁ e₂) e (inl h) = by field_a e refl refl h
      at (if_node e₀ e₁ e₂) e (inr (inl h)) = by field_b e refl refl h
      at (if_node e₀ e₁ e₂) e (inr (inr h)) = by field_c e refl refl h
      at (lambda_node y b) e h = by field_b e refl (other_name h.0) h.1
      at (let_node y e₁ e₂) e (inl h) = by field_b e refl refl h
      at (let_node y e₁ e₂) e (inr h) = by field_c e refl (other_name h.0) h.1
      at (rec_node y b) e h = by field_b e refl (other_name h.0) h.1

  pub free_is_bound : (k : ℕ) → k < n → (x : Name) → Free x (exp_at nd n k) → (b : ℕ) × (first_named nd x (scope nd k) ≡ Some b)
  free_is_bound = up closed.tree FreeIsBound from_children

pub root_closed : {nd : Nodes} {n : ℕ} → ClosedTree nd n → Closed (exp_at nd n 0)
unfolding first_named
root_closed {nd} closed =
    record {
      nothing_free = λ x free.
          let (b, e) = free_is_bound closed 0 closed.tree.root x free in
          let at_root = rw (climb_root [] (enter nd) nd) at e in
          let z : ◌≡◌ {A = ℕ} 0 1 = cc in
          omega arith;
    }
