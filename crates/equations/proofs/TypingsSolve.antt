-- A typing of a table's formula gives a solution of the table's equations: the derivation is carried down the table, and the type of a node
-- is the type of the derivation that arrives there.
use Rattle.std.specs.Prelude.{ℕ, ◌*◌, ◌+◌, ◌<◌, ◌/◌, ◌%◌, ◌≡◌, cond, ◌≢◌, eqb, Some}
use Rattle.std.proofs.Math.Path.{refl, sym, subst}
use Rattle.std.proofs.Common.{◌∙◌, ap, ap₂, eq-eqb, ne_eqb}
use mathlib.Core.List.{[]}
use native.Mathlib.Omega.{arith}
use Rattle.language.specs.Expression.{Name, name}
use Rattle.language.specs.Ty.{Ty, Subst, ◌⇒◌, apply}
use Rattle.language.specs.Environment.{Env, empty, Find, here, outside}
use Rattle.language.specs.Typing.{Has, CONST, ID, APP, COND, LET, ABSTR', REC'}
use Rattle.language.proofs.TypingLaws.{constants_have_no_variable}
use Rattle.language.specs.Unification.{Solves, none_left, also}
use Rattle.table.specs.Node.{Node, Nodes, constant_node, name_node, application_node, if_node, lambda_node, let_node, rec_node, Field, field_a, field_b, field_c, child, Kid}
use Rattle.table.specs.Walk.{climb}
use Rattle.table.specs.Scope.{enter, scope}
use Rattle.table.specs.ExpressionOf.{shape, exp_at}
use Rattle.table.specs.Tree.{ClosedTree}
use Rattle.table.specs.TreeLaws.{climb_root, climb_kid, down}
use Rattle.table.specs.ExpressionLaws.{exp_is}
use Rattle.equations.specs.Equations.{node_var, name_var, name_equations, equations_at, equations_below}
use Rattle.equations.proofs.NodeByNode.{solves_below}
use Rattle.equations.specs.ScopeEnvironment.{env_of, env_of_kid, name_has_binder's_type}
use Rattle.equations.specs.Derivations.{Derivation, packed, binds, premise, Types, types, premise_types_kid}

-- ---- Types for nodes and for names as one substitution

module _ (nodes names : ℕ → Ty) where
  assigned : Subst
  assigned v = cond (eqb (v % 2) 0) (nodes (v / 2)) (names (v / 2))

  assigned_at_node : (k : ℕ) → assigned (node_var k) ≡ nodes k
  unfolding assigned
  assigned_at_node k =
      let half : 2 * k / 2 ≡ k = omega arith in
      let even : 2 * k % 2 ≡ 0 = omega arith in
      rw (eq-eqb _ _ even, half)

  assigned_at_name : (k : ℕ) → assigned (name_var k) ≡ names k
  unfolding assigned
  assigned_at_name k =
      let half : (2 * k + 1) / 2 ≡ k = omega arith in
      let odd : (2 * k + 1) % 2 ≢ 0 = omega arith in
      rw (ne_eqb _ _ odd, half)

-- ---- A node's equations

-- An environment says one thing of a name.
one_type : {Γ : Env Ty} {x : Name} {τ τ' : Ty} → Has Γ (name x) τ → Has Γ (name x) τ' → τ ≡ τ'
one_type (ID found) (ID found') = same found refl found'
  where
    same : {Γ Δ Δ' : Env Ty} {x y : Name} {τ τ' : Ty} → Find Γ x τ Δ → x ≡ y → Find Γ y τ' Δ' → τ ≡ τ'
    same here e here = refl
    same here e (outside differ g) = absurd (differ (sym e))
    same (outside differ f) e here = absurd (differ e)
    same (outside differ f) e (outside differ' g) = same f e g

module _ {nd : Nodes} {n : ℕ} (t : ClosedTree nd n) (s : Subst) where
  -- A line for each rule: a derivation for a node solves the node's equations, if the types that s gives are those of the derivation and
  -- of its premises.
  solves_at : (k : ℕ) → k < n → (node : Node) → nd k ≡ node → {j : Derivation} → Types j (env_of nd s (scope nd k)) (shape (exp_at nd n) node) →
      s (node_var k) ≡ j.type → s (name_var k) ≡ binds j → ((f : Field) (c : ℕ) → child node f ≡ Some c → s (node_var c) ≡ (premise j f).type) →
      Solves s (equations_at nd k node)
  unfolding apply
  solves_at k below (constant_node c) e (types (CONST is)) own bound kid = also (own ∙ sym is ∙ sym (constants_have_no_variable s c)) none_left
  solves_at k below (name_node x) e (types d) own bound kid =
      let (b, binder, found) = name_has_binder's_type nd s t below e in
      subst (λ o. Solves s (name_equations k o)) (sym binder) (also (own ∙ one_type d found) none_left)
  solves_at k below (application_node l r) e (types (APP d₁ d₂)) own bound kid = also (kid field_a l refl ∙ sym (ap₂ ◌⇒◌ (kid field_b r refl) own)) none_left
  solves_at k below (if_node e₀ e₁ e₂) e (types (COND d₀ d₁ d₂)) own bound kid =
      also (kid field_a e₀ refl) (also (own ∙ sym (kid field_b e₁ refl)) (also (own ∙ sym (kid field_c e₂ refl)) none_left))
  solves_at k below (lambda_node x b) e (types (ABSTR' d)) own bound kid = also (own ∙ sym (ap₂ ◌⇒◌ bound (kid field_b b refl))) none_left
  solves_at k below (let_node x e₁ e₂) e (types (LET d₁ d₂)) own bound kid =
      also (own ∙ sym (kid field_c e₂ refl)) (also (bound ∙ sym (kid field_b e₁ refl)) none_left)
  solves_at k below (rec_node x b) e (types (REC' d)) own bound kid = also (own ∙ sym bound) (also (own ∙ sym (kid field_b b refl)) none_left)

-- ---- The derivation carried down

module _ {nd : Nodes} {n : ℕ} (t : ClosedTree nd n) {τ : Ty} (d : Has empty (exp_at nd n 0) τ) where
  abbrev to_premise : ℕ → Field → Derivation → Derivation
  to_premise p f j = premise j f

  abbrev arriving : ℕ → Derivation
  arriving k = climb (packed d) to_premise nd k

  typing_solution : Subst
  typing_solution = assigned (λ k. (arriving k).type) (λ k. binds (arriving k))

  at_node : (k : ℕ) → typing_solution (node_var k) ≡ (arriving k).type
  unfolding typing_solution
  at_node = assigned_at_node _ _

  at_name : (k : ℕ) → typing_solution (name_var k) ≡ binds (arriving k)
  unfolding typing_solution
  at_name = assigned_at_name _ _

  abbrev Arrives : ℕ → Type 0
  Arrives k = Types (arriving k) (env_of nd typing_solution (scope nd k)) (exp_at nd n k)

  at_root : Arrives 0
  unfolding env_of
  at_root = rw (climb_root (packed d) to_premise nd, climb_root [] (enter nd) nd) (types d)

  to_kid : (p : ℕ) (f : Field) (c : ℕ) → p < n → Kid nd p f c → Arrives p → Arrives c
  to_kid p f c below kid a =
      let b = premise_types_kid (exp_at nd n) (nd p) f kid.stands (rw (exp_is t.tree.descending p below) at a) in
      rw (climb_kid t.tree (packed d) to_premise below kid, env_of_kid nd typing_solution t.tree below kid, at_name p) b

  solves_every : (k : ℕ) → k < n → Solves typing_solution (equations_at nd k (nd k))
  solves_every k below =
      solves_at t typing_solution k below (nd k) refl (rw (exp_is t.tree.descending k below) at (down t.tree Arrives at_root to_kid k below)) (at_node k) (at_name k)
      λ f c stands.
      let kid : Kid nd k f c = record { stands = stands } in
      at_node c ∙ ap (λ j. j.type) (climb_kid t.tree (packed d) to_premise below kid)

  pub typing_is_solution : (s : Subst) × Solves s (equations_below nd n) × (s (node_var 0) ≡ τ)
  typing_is_solution = (typing_solution, solves_below nd typing_solution n solves_every, at_node 0 ∙ ap (λ j. j.type) (climb_root (packed d) to_premise nd))
