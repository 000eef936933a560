-- Most general solutions (lecture notes, Lemma 14): of an equation α = τ where α does not occur in τ, and of E₁ ++ E₂ from one of E₁ and
-- one of what that makes of E₂. So an answer for E₁ ++ E₂ is right if it is made of two right ones.
use Rattle.std.specs.Prelude.{ℕ, ◌≡◌, refl, Bool, true, false, cond, ◌||◌, eqb}
use Rattle.std.proofs.Math.Path.{sym, fun_ext}
use Rattle.std.proofs.Common.{◌∙◌, ap, ap₂, subst, eqb-true, eq-eqb}
use Rattle.std.proofs.lemmas.Bool.{false≢true}
use mathlib.Core.List.{List, [], ◌∷◌, ◌++◌}
use Rattle.language.specs.Ty.{Ty, unit, bool, int, ◌⇒◌, var, Subst, apply, compose}
use Rattle.language.proofs.TyLaws.{apply_compose, compose_assoc}
use Rattle.language.specs.Unification.{Equation, ◌≐◌, Solves, none_left, also, MostGeneralSolution, occurs, single, apply_all, Unified, solution, unsolvable, Right, after}

pub or_false : (a b : Bool) → (a || b) ≡ false → (a ≡ false) × (b ≡ false)
or_false true b e = (e, absurd (false≢true (sym e)))
or_false false b e = (refl, e)

-- ---- Solutions

pub first_solved : {s : Subst} {τ₁ τ₂ : Ty} {E : List Equation} → Solves s ((τ₁ ≐ τ₂) ∷ E) → apply s τ₁ ≡ apply s τ₂
first_solved (also e h) = e

pub rest_solved : {s : Subst} {e : Equation} {E : List Equation} → Solves s (e ∷ E) → Solves s E
rest_solved (also e h) = h

pub solves_append : {s : Subst} {E₁ E₂ : List Equation} → Solves s E₁ → Solves s E₂ → Solves s (E₁ ++ E₂)
solves_append none_left h₂ = h₂
solves_append (also e h₁) h₂ = also e (solves_append h₁ h₂)

pub solves_split : {s : Subst} (E₁ E₂ : List Equation) → Solves s (E₁ ++ E₂) → Solves s E₁ × Solves s E₂
solves_split [] E₂ h = (none_left, h)
solves_split (e ∷ E₁) E₂ (also q h) = let (h₁, h₂) = solves_split E₁ E₂ h in (also q h₁, h₂)

module _ (s₁ s₂ : Subst) where
  -- "die Anwendung einer Substitution auf eine gültige Gleichung liefert wieder eine gültige Gleichung"
  solves_more : {E : List Equation} → Solves s₁ E → Solves (compose s₁ s₂) E
  solves_more none_left = none_left
  solves_more (also {τ₁} {τ₂} e h) = also (apply_compose s₁ s₂ τ₁ ∙ ap (apply s₂) e ∙ sym (apply_compose s₁ s₂ τ₂)) (solves_more h)

  -- s₁ s₂ solves E exactly if s₂ solves E s₁.
  solves_composed : (E : List Equation) → Solves s₂ (apply_all s₁ E) → Solves (compose s₁ s₂) E
  unfolding apply_all
  solves_composed [] h = none_left
  solves_composed ((τ₁ ≐ τ₂) ∷ E) (also e h) = also (apply_compose s₁ s₂ τ₁ ∙ e ∙ sym (apply_compose s₁ s₂ τ₂)) (solves_composed E h)

  solves_applied : {E : List Equation} → Solves (compose s₁ s₂) E → Solves s₂ (apply_all s₁ E)
  unfolding apply_all
  solves_applied none_left = none_left
  solves_applied (also {τ₁} {τ₂} e h) = also (sym (apply_compose s₁ s₂ τ₁) ∙ e ∙ apply_compose s₁ s₂ τ₂) (solves_applied h)

-- ---- Lemma 14

-- τ[t/α] = τ where α ∉ var(τ)
apply_absent : (α : ℕ) (t τ : Ty) → occurs α τ ≡ false → apply (single α t) τ ≡ τ
unfolding apply occurs
apply_absent α t unit e = refl
apply_absent α t bool e = refl
apply_absent α t int e = refl
apply_absent α t (τ₁ ⇒ τ₂) e = let (e₁, e₂) = or_false (occurs α τ₁) (occurs α τ₂) e in ap₂ ◌⇒◌ (apply_absent α t τ₁ e₁) (apply_absent α t τ₂ e₂)
apply_absent α t (var β) e = rw e

-- [τ/α] s = s where s solves α = τ
single_before_solution : (α : ℕ) (τ : Ty) (s : Subst) → s α ≡ apply s τ → compose (single α τ) s ≡ s
unfolding apply
single_before_solution α τ s e = fun_ext (λ β. go β (eqb α β) refl)
  where
    go : (β : ℕ) (b : Bool) → eqb α β ≡ b → apply s (cond b τ (var β)) ≡ s β
    go β true q = sym e ∙ ap s (eqb-true α β q)
    go β false q = refl

-- (1) [τ/α] is a most general solution of α = τ where α ∉ var(τ).
pub single_most_general : (α : ℕ) (τ : Ty) → occurs α τ ≡ false → MostGeneralSolution ((var α ≐ τ) ∷ []) (single α τ)
unfolding apply
single_most_general α τ e = record {
  solves = also (ap (λ (b : Bool). cond b τ (var α)) (eq-eqb α α refl) ∙ sym (apply_absent α τ τ e)) none_left;
  most_general = λ s h. record { after = s; is = single_before_solution α τ s (first_solved h) };
}

module _ {E₁ : List Equation} {s₁ : Subst} (E₂ : List Equation) (g₁ : MostGeneralSolution E₁ s₁) where
  -- A solution of both is s₁ and a solution of E₂ s₁ after it.
  rest_solution : {s : Subst} → Solves s (E₁ ++ E₂) → (t : Subst) × (compose s₁ t ≡ s) × Solves t (apply_all s₁ E₂)
  rest_solution {s} h =
      let (h₁, h₂) = solves_split E₁ E₂ h in
      let g = g₁.most_general s h₁ in
      (g.after, g.is, solves_applied s₁ g.after (subst (λ (s' : Subst). Solves s' E₂) (sym g.is) h₂))

  -- (2) s₁ s₂ is a most general solution of E₁ ++ E₂ if s₁ is one of E₁ and s₂ one of E₂ s₁.
  pub composed_most_general : {s₂ : Subst} → MostGeneralSolution (apply_all s₁ E₂) s₂ → MostGeneralSolution (E₁ ++ E₂) (compose s₁ s₂)
  composed_most_general {s₂} g₂ = record {
    solves = solves_append (solves_more s₁ s₂ g₁.solves) (solves_composed s₁ s₂ E₂ g₂.solves);
    most_general = λ s h.
        let (t, e, k) = rest_solution h in
        let g = g₂.most_general t k in
        record { after = g.after; is = compose_assoc s₁ s₂ g.after ∙ ap (compose s₁) g.is ∙ e };
  }

  -- The same of answers: also, E₁ ++ E₂ has no solution if E₂ s₁ has none.
  pub after_right : (a : Unified) → Right (apply_all s₁ E₂) a → Right (E₁ ++ E₂) (after s₁ a)
  after_right (solution s₂) r = composed_most_general r
  after_right unsolvable r = λ s h. let (t, e, k) = rest_solution h in r t k
