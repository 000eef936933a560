-- A solution of a table's equations types its formula: at every node it gives a derivation in the environment of the node's scope.
use Rattle.std.specs.Prelude.{ℕ, ◌<◌, ◌≡◌, refl, Some}
use Rattle.std.proofs.Common.{sym, ◌∙◌, subst}
use mathlib.Core.List.{[]}
use Rattle.language.specs.Ty.{Subst, apply}
use Rattle.language.specs.Environment.{empty}
use Rattle.language.specs.Typing.{Has, CONST, APP, COND, LET, ABSTR', REC'}
use Rattle.language.proofs.TypingLaws.{constants_have_no_variable}
use Rattle.language.specs.Unification.{Solves, none_left, also}
use Rattle.language.proofs.MostGeneral.{first_solved}
use Rattle.table.specs.Node.{Node, Nodes, constant_node, name_node, application_node, if_node, lambda_node, let_node, rec_node, Field, field_a, field_b, field_c, child, Kid}
use Rattle.table.specs.Scope.{enter, scope}
use Rattle.table.specs.ExpressionOf.{shape, exp_at}
use Rattle.table.specs.Tree.{ClosedTree}
use Rattle.table.specs.TreeLaws.{climb_root, up}
use Rattle.table.specs.ExpressionLaws.{exp_is}
use Rattle.equations.specs.Equations.{node_var, name_var, name_equations, equations_at, equations_below}
use Rattle.equations.proofs.NodeByNode.{solves_each}
use Rattle.equations.specs.ScopeEnvironment.{inside, env_of, env_of_kid, name_has_binder's_type}

module _ {nd : Nodes} {n : ℕ} (t : ClosedTree nd n) (s : Subst) where
  abbrev Typed : ℕ → Type 0
  Typed k = Has (env_of nd s (scope nd k)) (exp_at nd n k) (s (node_var k))

  -- A line for each rule: the equations of a node make its typing out of those of its children.
  by_rule : (k : ℕ) → k < n → (node : Node) → nd k ≡ node → Solves s (equations_at nd k node) →
      ((f : Field) (c : ℕ) → child node f ≡ Some c → Has (inside node f (s (name_var k)) (env_of nd s (scope nd k))) (exp_at nd n c) (s (node_var c))) →
      Has (env_of nd s (scope nd k)) (shape (exp_at nd n) node) (s (node_var k))
  unfolding apply
  by_rule k below (constant_node c) e (also q none_left) kid = CONST (sym (q ∙ constants_have_no_variable s c))
  by_rule k below (name_node x) e h kid =
      let (b, binder, found) = name_has_binder's_type nd s t below e in
      let q : s (node_var k) ≡ s (name_var b) = first_solved (subst (λ o. Solves s (name_equations k o)) binder h) in
      rw q found
  by_rule k below (application_node l r) e (also q none_left) kid = APP (rw q at (kid field_a l refl)) (kid field_b r refl)
  by_rule k below (if_node e₀ e₁ e₂) e (also q₀ (also q₁ (also q₂ none_left))) kid =
      COND (rw q₀ at (kid field_a e₀ refl)) (rw (← q₁) at (kid field_b e₁ refl)) (rw (← q₂) at (kid field_c e₂ refl))
  by_rule k below (lambda_node x b) e (also q none_left) kid = rw q (ABSTR' (kid field_b b refl))
  by_rule k below (let_node x e₁ e₂) e (also q₂ (also q₁ none_left)) kid = LET (kid field_b e₁ refl) (rw (q₁, ← q₂) at (kid field_c e₂ refl))
  by_rule k below (rec_node x b) e (also q₁ (also q₂ none_left)) kid = REC' (rw (← q₁, ← q₂) at (kid field_b b refl))

  every_node_typed : Solves s (equations_below nd n) → (k : ℕ) → k < n → Typed k
  every_node_typed h = up t.tree Typed λ k below kids. rw (exp_is t.tree.descending k below) (by_rule k below (nd k) refl (solves_each nd s n h k below) λ f c stands.
      let kid : Kid nd k f c = record { stands = stands } in
      rw (env_of_kid nd s t.tree below kid) at (kids f c kid))

  pub solution_is_typing : Solves s (equations_below nd n) → Has empty (exp_at nd n 0) (s (node_var 0))
  unfolding env_of
  solution_is_typing h = rw (climb_root [] (enter nd) nd) at (every_node_typed h 0 t.tree.root)
