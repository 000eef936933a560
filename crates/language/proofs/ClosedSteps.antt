-- Steps keep an expression closed, since substitution brings in no name but those of what it puts in (lecture notes, Lemmas 2, 4 and 8).
use Rattle.std.specs.Prelude.{ℕ, ◌≡◌, ◌⊎◌, ◌≢◌, Bool, cond}
use Rattle.std.proofs.Math.Path.{refl}
use Rattle.std.proofs.Common.{sym, ◌∙◌, ap, ap₂, subst, ⊎_elim, arith}
use Rattle.std.proofs.Math.Logic.{inl, inr, ⊎_map, ⊎_swap}
use Rattle.std.proofs.Math.Bool.{true, false}
use Rattle.std.proofs.Math.Dec.{eqb}
use borrow.Author.Tests.{eqb-true, eqb-false, ne_eqb}
use Rattle.language.specs.Expression.{Name, Exp, boolean, integer, constant, name, app, if_then_else, lambda, let_in, rec, Free, Closed}
use Rattle.language.specs.Integers.{Outcome, number, truth, exception, meaning}
use Rattle.language.specs.Substitution.{sub}
use Rattle.language.specs.SmallStep.{next, result_of, Step, OP, BETA_V, APP_LEFT, APP_RIGHT, COND_EVAL, COND_TRUE, COND_FALSE, LET_EVAL, LET_EXEC, UNFOLD, Steps, done, then}

-- ---- Free names and substitution

module _ (x : Name) (s : Exp) (y : Name) where
  -- Where a free y of e[s/x] comes from: from s, or from e, where it is not x.
  abbrev From : Type 0 → Type 0
  From A = Free y s ⊎ ((y ≢ x) × A)

  through : {A B : Type 0} → (A → B) → From A → From B
  through f = ⊎_map (λ g. g) (λ g. (g.0, f g.1))

  either : {A A' B B' : Type 0} → (A → From A') → (B → From B') → A ⊎ B → From (A' ⊎ B')
  either f g = ⊎_elim (λ a. through inl (f a)) (λ b. through inr (g b))

  under : (z : Name) (e : Exp) → (Free y (sub x s e) → From (Free y e)) → (y ≢ z) × Free y (cond (eqb x z) e (sub x s e)) → From ((y ≢ z) × Free y e)
  under z e ih f = go (eqb x z) refl f.1
    where
      go : (b : Bool) → eqb x z ≡ b → Free y (cond b e (sub x s e)) → From ((y ≢ z) × Free y e)
      go true p g = inr ((λ q. f.0 (q ∙ eqb-true x z p)), (f.0, g))
      go false p g = through (λ h. (f.0, h)) (ih g)

  free_after : (e : Exp) → Free y (sub x s e) → From (Free y e)
  unfolding sub
  free_after (constant c) f = absurd f
  free_after (name z) f = go (eqb x z) refl f
    where
      go : (b : Bool) → eqb x z ≡ b → Free y (cond b s (name z)) → From (y ≡ z)
      go true p g = inl g
      go false p g = inr ((λ q. eqb-false x z p (sym q ∙ g)), g)
  free_after (app e₁ e₂) f = either (free_after e₁) (free_after e₂) f
  free_after (if_then_else e₀ e₁ e₂) f = either (free_after e₀) (either (free_after e₁) (free_after e₂)) f
  free_after (lambda z e) f = under z e (free_after e) f
  free_after (let_in z e₁ e₂) f = either (free_after e₁) (under z e₂ (free_after e₂)) f
  free_after (rec z e) f = under z e (free_after e) f

-- Lemma 8
pub free_in_sub : (x : Name) (s e : Exp) (y : Name) → Free y (sub x s e) → Free y s ⊎ ((y ≢ x) × Free y e)
free_in_sub x s e y = free_after x s y e

under_not_free : (x z : Name) (s e : Exp) → (¬ Free x e → sub x s e ≡ e) → ¬ ((x ≢ z) × Free x e) → cond (eqb x z) e (sub x s e) ≡ e
under_not_free x z s e ih n = go (eqb x z) refl
  where
    go : (b : Bool) → eqb x z ≡ b → cond b e (sub x s e) ≡ e
    go true p = refl
    go false p = ih (λ f. n (eqb-false x z p, f))

-- Nothing is put in where the name is not free.
pub sub_not_free : (x : Name) (s e : Exp) → ¬ Free x e → sub x s e ≡ e
unfolding sub
sub_not_free x s (constant c) n = refl
sub_not_free x s (name z) n = rw (ne_eqb x z n)
sub_not_free x s (app e₁ e₂) n = ap₂ app (sub_not_free x s e₁ (λ f. n (inl f))) (sub_not_free x s e₂ (λ f. n (inr f)))
sub_not_free x s (if_then_else e₀ e₁ e₂) n =
    rw (sub_not_free x s e₀ (λ f. n (inl f)), sub_not_free x s e₁ (λ f. n (inr (inl f))), sub_not_free x s e₂ (λ f. n (inr (inr f))))
sub_not_free x s (lambda z e) n = ap (lambda z) (under_not_free x z s e (sub_not_free x s e) n)
sub_not_free x s (let_in z e₁ e₂) n =
    ap₂ (let_in z) (sub_not_free x s e₁ (λ f. n (inl f))) (under_not_free x z s e₂ (sub_not_free x s e₂) (λ f. n (inr f)))
sub_not_free x s (rec z e) n = ap (rec z) (under_not_free x z s e (sub_not_free x s e) n)

pub sub_closed : (x : Name) (s e : Exp) → Closed e → sub x s e ≡ e
sub_closed x s e c = sub_not_free x s e (c.nothing_free x)

-- ---- Free names and steps

outcome_closed : (t : Outcome) {e : Exp} → result_of t ≡ next e → (y : Name) → ¬ Free y e
outcome_closed (number n) {e} p y f = let q : e ≡ constant (integer n) = cc in subst (Free y) q f
outcome_closed (truth b) {e} p y f = let q : e ≡ constant (boolean b) = cc in subst (Free y) q f
outcome_closed (exception x) p y f = let z : ◌≡◌ {A = ℕ} 0 1 = cc in omega arith

-- Lemmas 2 and 4
pub step_frees_nothing : {e e' : Exp} → Step e (next e') → (y : Name) → Free y e' → Free y e
step_frees_nothing (OP {o} {m} {n} p) y f = absurd (outcome_closed (meaning o m n) p y f)
step_frees_nothing (BETA_V {x} {e} {v} w) y f = ⊎_swap (free_in_sub x v e y f)
step_frees_nothing (APP_LEFT d) y f = ⊎_map (λ g. step_frees_nothing d y g) (λ g. g) f
step_frees_nothing (APP_RIGHT v d) y f = ⊎_map (λ g. g) (λ g. step_frees_nothing d y g) f
step_frees_nothing (COND_EVAL d) y f = ⊎_map (λ g. step_frees_nothing d y g) (λ g. g) f
step_frees_nothing COND_TRUE y f = inr (inl f)
step_frees_nothing COND_FALSE y f = inr (inr f)
step_frees_nothing (LET_EVAL d) y f = ⊎_map (λ g. step_frees_nothing d y g) (λ g. g) f
step_frees_nothing (LET_EXEC {x} {v} {e} w) y f = free_in_sub x v e y f
step_frees_nothing (UNFOLD {x} {e}) y f = ⊎_elim (λ g. g) (λ g. g) (free_in_sub x (rec x e) e y f)

pub step_stays_closed : {e e' : Exp} → Step e (next e') → Closed e → Closed e'
step_stays_closed d c = record { nothing_free = λ y f. c.nothing_free y (step_frees_nothing d y f) }

pub steps_stay_closed : {e e' : Exp} → Steps e e' → Closed e → Closed e'
steps_stay_closed done c = c
steps_stay_closed (then d ds) c = steps_stay_closed ds (step_stays_closed d c)
