-- What is demanded of the cells of a node is that its equations are solved, rule by rule.
use Prim.Native.Nat.{ℕ, zero, suc, ◌-◌, ◌≤◌, ◌<◌}
use Rattle.std.specs.Prelude.{◌≡◌, cond, ◌≢◌, ◌↔◌, ◌⊎◌, List, [], ◌∷◌, Option, None, Some, Result, Ok}
use Rattle.std.proofs.Math.Path.{refl, sym}
use Rattle.std.proofs.Common.{◌∙◌, ap, ap₂, inl, inr, lt-ltb, le-ltb}
use native.Mathlib.Omega.{arith}
use Rattle.language.specs.Expression.{operator}
use Rattle.language.specs.Ty.{Ty, unit, bool, int, ◌⇒◌, Subst, apply}
use Rattle.language.specs.Typing.{gives, type_of}
use Rattle.language.proofs.TypingLaws.{constants_have_no_variable}
use Rattle.language.specs.Unification.{◌≐◌, Solves, none_left, also}
use Rattle.language.proofs.MostGeneral.{first_solved}
use Rattle.language.specs.Numbers.{operator_at}
use Rattle.table.specs.Node.{Node, node_of, node_at, count_of}
use Rattle.table.specs.Scope.{name_of, binder_for, binder_of}
use Rattle.table.specs.Asked.{words_at, binder_in}
use Rattle.table.specs.NodeLaws.{reads_as}
use Rattle.table.specs.Lookup.{found_below_lem}
use Rattle.table.specs.declared.NodeWords.{NodeWords}
use Rattle.equations.specs.Equations.{equations_at}
use Rattle.cells.specs.Cells.{Sat}
use Rattle.cells.specs.Layout.{store_of, Sound}
use Rattle.cells.specs.Interface.{Outcome}
use Rattle.cells.specs.Outcomes.{outcome_for}
use Rattle.cells.specs.Starting.{Constants}
use Rattle.cells.specs.declared.Clash.{Clash}
use Rattle.inference.specs.NodeCells.{has_node}
use Rattle.inference.specs.TableCells.{type_cell, name_cell, HasNode, unknowns, gives_cell, NodeSolved, NameSolved, NodeReady}

-- ---- A name

module _ {words : List ℕ} {k : ℕ} {mem : List ℕ} (r : NodeReady words k mem) {b : Option ℕ} (found : b ≡ binder_in words k) where
  answer : b ≡ binder_of (node_at words) k
  answer = found ∙ ap (λ t. cond t (binder_of (node_at words) k) None) (lt-ltb k (count_of words) (rw (← r.tree_in.counted) r.below))

  binder_is : {o : Option ℕ} → b ≡ o → binder_of (node_at words) k ≡ o
  binder_is e = sym answer ∙ e

  pub binder_ready : {p : ℕ} → b ≡ Some p → Sound mem × HasNode mem k × HasNode mem p
  binder_ready {p} e =
      let less = go (name_of (node_at words k)) (binder_is e) in
      (r.cells.sound, has_node r r.below, has_node r (omega (arith, r.below)))
    where
      go : (x : Option ℕ) → binder_for (node_at words) k x ≡ Some p → p < k
      go None h = absurd (let z : ◌≡◌ {A = ℕ} 0 1 = cc in omega arith)
      go (Some x) h = found_below_lem (node_at words) x k k h

  pub name_solved : {after : List ℕ} {p : ℕ} {out : Result (Unit {0}) Clash} → b ≡ Some p → Outcome mem after (λ ρ. ρ (type_cell k) ≡ ρ (name_cell p)) out → Outcome mem after (NameSolved words k) out
  unfolding apply
  name_solved e = outcome_for (λ ρ h. (λ s. first_solved (rw (binder_is e) at s), λ q. rw (binder_is e) (also q none_left)))

  -- A name without a binder, which no checked table has, has no equation.
  pub unbound_solved : {u : Unit {0}} → b ≡ None → Outcome mem mem (NameSolved words k) (Ok u)
  unbound_solved e = record { same_length = refl; says = record { sound = r.cells.sound; keeps = λ ρ. (λ (h, s). h, λ h. (h, rw (binder_is e) none_left)) } }

-- ---- The rules

-- Kinds 0 to 9 are known; a match on 1 to 9 leaves 0 and the unknown ones.
pub other_kind : {kind : ℕ} → (((((((((Unit {0} × (kind ≢ 1)) × (kind ≢ 2)) × (kind ≢ 3)) × (kind ≢ 4)) × (kind ≢ 5)) × (kind ≢ 6)) × (kind ≢ 7)) × (kind ≢ 8)) × (kind ≢ 9)) → (kind ≡ 0) ⊎ (10 ≤ kind)
other_kind {kind = zero} others = inl refl
other_kind {kind = suc kind} (((((((((_, n₁), n₂), n₃), n₄), n₅), n₆), n₇), n₈), n₉) = inr (next (next (next (next (next (next (next (next (next (omega arith) n₁) n₂) n₃) n₄) n₅) n₆) n₇) n₈) n₉)
  where
    next : {k a : ℕ} → a ≤ k → k ≢ a → suc a ≤ k
    next h n = omega arith

one_solved : {s : Subst} {σ τ : Ty} → Solves s ((σ ≐ τ) ∷ []) ↔ (apply s σ ≡ apply s τ)
one_solved = (first_solved, λ q. also q none_left)

two_solved : {s : Subst} {σ σ' τ τ' : Ty} → Solves s ((σ ≐ τ) ∷ (σ' ≐ τ') ∷ []) ↔ ((apply s σ ≡ apply s τ) × (apply s σ' ≡ apply s τ'))
two_solved {s} {σ} {σ'} {τ} {τ'} = (split, λ (p, q). also p (also q none_left))
  where
    split : Solves s ((σ ≐ τ) ∷ (σ' ≐ τ') ∷ []) → (apply s σ ≡ apply s τ) × (apply s σ' ≡ apply s τ')
    split (also p (also q none_left)) = (p, q)

three_solved : {s : Subst} {σ σ' σ'' τ τ' τ'' : Ty} → Solves s ((σ ≐ τ) ∷ (σ' ≐ τ') ∷ (σ'' ≐ τ'') ∷ []) ↔ ((apply s σ ≡ apply s τ) × ((apply s σ' ≡ apply s τ') × (apply s σ'' ≡ apply s τ'')))
three_solved {s} {σ} {σ'} {σ''} {τ} {τ'} {τ''} = (split, λ (p, (q, t)). also p (also q (also t none_left)))
  where
    split : Solves s ((σ ≐ τ) ∷ (σ' ≐ τ') ∷ (σ'' ≐ τ'') ∷ []) → (apply s σ ≡ apply s τ) × ((apply s σ' ≡ apply s τ') × (apply s σ'' ≡ apply s τ''))
    split (also p (also q (also t none_left))) = (p, (q, t))

gives_after_one : {ρ : Subst} → Constants ρ → (o : ℕ) → ρ (gives_cell o) ≡ int ⇒ gives (operator_at o)
gives_after_one c zero = c.to_int
gives_after_one c (suc zero) = c.to_int
gives_after_one c (suc (suc zero)) = c.to_int
gives_after_one c (suc (suc (suc zero))) = c.to_int
gives_after_one c (suc (suc (suc (suc zero)))) = c.to_int
gives_after_one c (suc (suc (suc (suc (suc zero))))) = c.to_bool
gives_after_one c (suc (suc (suc (suc (suc (suc zero)))))) = c.to_bool
gives_after_one c (suc (suc (suc (suc (suc (suc (suc zero))))))) = c.to_bool
gives_after_one c (suc (suc (suc (suc (suc (suc (suc (suc zero)))))))) = c.to_bool
gives_after_one c (suc (suc (suc (suc (suc (suc (suc (suc (suc zero))))))))) = c.to_bool
gives_after_one c (suc (suc (suc (suc (suc (suc (suc (suc (suc (suc o)))))))))) = rw (le-ltb (suc (suc (suc (suc (suc (suc (suc (suc (suc (suc o)))))))))) 5 (omega arith)) c.to_bool

operator_type : {ρ : Subst} → Constants ρ → (o : ℕ) → ρ 1 ⇒ ρ (gives_cell o) ≡ type_of (operator (operator_at o))
operator_type c o = ap₂ ◌⇒◌ c.int_is (gives_after_one c o)

module _ {words : List ℕ} {k : ℕ} {mem after : List ℕ} (r : NodeReady words k mem) {w : NodeWords} (read : w ≡ words_at words k) {out : Result (Unit {0}) Clash} where
  -- A demand that is a node's equations, read from its words.
  by_rule : {node : Node} {E : Subst → Type 0} → node_at words k ≡ node → ((ρ : Subst) → Sat ρ (store_of mem) → Solves (unknowns ρ) (equations_at (node_at words) k node) ↔ E ρ) →
      Outcome mem after E out → Outcome mem after (NodeSolved words k) out
  by_rule is equal = outcome_for (λ ρ h. rw is (equal ρ h))

  -- (CONST) of bool and int.
  pub bool_solved : w.kind ≡ 1 → Outcome mem after (λ ρ. ρ (type_cell k) ≡ bool) out → Outcome mem after (NodeSolved words k) out
  unfolding node_of apply
  bool_solved e = by_rule (reads_as words k read e) (λ ρ s. one_solved)

  pub int_solved : w.kind ≡ 2 → Outcome mem after (λ ρ. ρ (type_cell k) ≡ int) out → Outcome mem after (NodeSolved words k) out
  unfolding node_of apply
  int_solved e = by_rule (reads_as words k read e) (λ ρ s. one_solved)

  -- (CONST) of an operator.
  pub operator_solved : w.kind ≡ 3 → Outcome mem after (λ ρ. ρ (type_cell k) ≡ ρ 1 ⇒ ρ (gives_cell w.a)) out → Outcome mem after (NodeSolved words k) out
  unfolding node_of apply
  operator_solved e = by_rule (reads_as words k read e) (λ ρ s.
      let is : ρ 1 ⇒ ρ (gives_cell w.a) ≡ apply (unknowns ρ) (type_of (operator (operator_at w.a))) =
      operator_type (r.cells.constants ρ s) w.a ∙ sym (constants_have_no_variable (unknowns ρ) (operator (operator_at w.a))) in
      (λ q. first_solved q ∙ sym is, λ q. also (q ∙ is) none_left))

  -- (ID)
  pub names_rule : w.kind ≡ 4 → Outcome mem after (NameSolved words k) out → Outcome mem after (NodeSolved words k) out
  unfolding node_of
  names_rule e = by_rule (reads_as words k read e) (λ ρ s. (λ q. q, λ q. q))

  -- (APP)
  pub application_solved : w.kind ≡ 5 → Outcome mem after (λ ρ. ρ (type_cell w.a) ≡ ρ (type_cell w.b) ⇒ ρ (type_cell k)) out → Outcome mem after (NodeSolved words k) out
  unfolding node_of apply
  application_solved e = by_rule (reads_as words k read e) (λ ρ s. one_solved)

  -- (COND)
  pub if_solved : w.kind ≡ 6 → Outcome mem after (λ ρ. (ρ (type_cell w.a) ≡ bool) × ((ρ (type_cell k) ≡ ρ (type_cell w.b)) × (ρ (type_cell k) ≡ ρ (type_cell w.c)))) out →
      Outcome mem after (NodeSolved words k) out
  unfolding node_of apply
  if_solved e = by_rule (reads_as words k read e) (λ ρ s. three_solved)

  -- (ABSTR)
  pub lambda_solved : w.kind ≡ 7 → Outcome mem after (λ ρ. ρ (type_cell k) ≡ ρ (name_cell k) ⇒ ρ (type_cell w.b)) out → Outcome mem after (NodeSolved words k) out
  unfolding node_of apply
  lambda_solved e = by_rule (reads_as words k read e) (λ ρ s. one_solved)

  -- (LET)
  pub let_solved : w.kind ≡ 8 → Outcome mem after (λ ρ. (ρ (type_cell k) ≡ ρ (type_cell w.c)) × (ρ (name_cell k) ≡ ρ (type_cell w.b))) out → Outcome mem after (NodeSolved words k) out
  unfolding node_of apply
  let_solved e = by_rule (reads_as words k read e) (λ ρ s. two_solved)

  -- (REC)
  pub rec_solved : w.kind ≡ 9 → Outcome mem after (λ ρ. (ρ (type_cell k) ≡ ρ (name_cell k)) × (ρ (type_cell k) ≡ ρ (type_cell w.b))) out → Outcome mem after (NodeSolved words k) out
  unfolding node_of apply
  rec_solved e = by_rule (reads_as words k read e) (λ ρ s. two_solved)

  -- (CONST) of unit, as which an unknown kind reads.
  pub unit_solved : w.kind ≡ 0 → Outcome mem after (λ ρ. ρ (type_cell k) ≡ unit) out → Outcome mem after (NodeSolved words k) out
  unfolding node_of apply
  unit_solved e = by_rule (reads_as words k read e) (λ ρ s. one_solved)

  pub unknown_solved : 10 ≤ w.kind → Outcome mem after (λ ρ. ρ (type_cell k) ≡ unit) out → Outcome mem after (NodeSolved words k) out
  unfolding node_of apply
  unknown_solved h =
      let e : w.kind ≡ suc (suc (suc (suc (suc (suc (suc (suc (suc (suc (w.kind - 10)))))))))) = omega arith in
      by_rule (reads_as words k read e) (λ ρ s. one_solved)

  -- A match on 1 to 9 leaves both.
  pub unit_or_unknown_solved : (w.kind ≡ 0) ⊎ (10 ≤ w.kind) → Outcome mem after (λ ρ. ρ (type_cell k) ≡ unit) out → Outcome mem after (NodeSolved words k) out
  unit_or_unknown_solved (inl e) = unit_solved e
  unit_or_unknown_solved (inr h) = unknown_solved h
