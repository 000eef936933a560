-- The naive substitution is the final one where the expression put in is closed: no binder has to be renamed (lecture notes, remarks 1
-- and 3 after Definition 5).
use Rattle.std.specs.Prelude.{◌≡◌, refl, ◌≢◌, Bool, true, false, cond, eqb}
use Rattle.std.proofs.Common.{sym, subst, eqb-true}
use Rattle.std.proofs.lemmas.Bool.{eqb-false}
use Rattle.std.proofs.Math.Decide.{ℕ_discrete}
use Rattle.language.specs.Expression.{Name, Exp, constant, name, app, if_then_else, lambda, let_in, rec, Free, Closed}
use Rattle.language.specs.Substitution.{sub}
use Rattle.language.specs.FinalSubstitution.{FinalSub, in_constant, in_itself, in_other, in_app, in_if, in_lambda, in_let, in_rec, FinalSubUnder, hidden, renamed}

-- Remark 1: a binder that is not free in s may stay, its new name being its own.
kept : {x y : Name} {s e e' : Exp} → x ≢ y → ¬ Free y s → FinalSub y (name y) e e → FinalSub x s e e' → FinalSubUnder x s y e y e'
kept n c = renamed n c (λ p. n (sym p)) (λ f. f.0 refl)

rename_under : {y z : Name} {e : Exp} → Dec (y ≡ z) → FinalSub z (name z) e e → FinalSub y (name y) e e → FinalSubUnder y (name y) z e z e
rename_under {y} {e} (yes p) d d' = subst (λ (z : Name). FinalSubUnder y (name y) z e z e) p hidden
rename_under (no n) d d' = kept n (λ p. n (sym p)) d d'

-- Renaming a name to itself changes nothing.
rename_to_itself : (y : Name) (e : Exp) → FinalSub y (name y) e e
rename_to_itself y (constant c) = in_constant
rename_to_itself y (name z) = go (ℕ_discrete y z)
  where
    go : Dec (y ≡ z) → FinalSub y (name y) (name z) (name z)
    go (yes p) = subst (λ (z : Name). FinalSub y (name y) (name z) (name z)) p in_itself
    go (no n) = in_other n
rename_to_itself y (app e₁ e₂) = in_app (rename_to_itself y e₁) (rename_to_itself y e₂)
rename_to_itself y (if_then_else e₀ e₁ e₂) = in_if (rename_to_itself y e₀) (rename_to_itself y e₁) (rename_to_itself y e₂)
rename_to_itself y (lambda z e) = in_lambda (rename_under (ℕ_discrete y z) (rename_to_itself z e) (rename_to_itself y e))
rename_to_itself y (let_in z e₁ e₂) = in_let (rename_to_itself y e₁) (rename_under (ℕ_discrete y z) (rename_to_itself z e₂) (rename_to_itself y e₂))
rename_to_itself y (rec z e) = in_rec (rename_under (ℕ_discrete y z) (rename_to_itself z e) (rename_to_itself y e))

naive_under : (x y : Name) (s e : Exp) → Closed s → FinalSub x s e (sub x s e) → FinalSubUnder x s y e y (cond (eqb x y) e (sub x s e))
naive_under x y s e c d = go (eqb x y) refl
  where
    go : (b : Bool) → eqb x y ≡ b → FinalSubUnder x s y e y (cond b e (sub x s e))
    go true p = subst (λ (z : Name). FinalSubUnder x s z e z e) (eqb-true x y p) hidden
    go false p = kept (eqb-false x y p) (c.nothing_free y) (rename_to_itself y e) d

pub naive_is_final : (x : Name) (s e : Exp) → Closed s → FinalSub x s e (sub x s e)
unfolding sub
naive_is_final x s (constant a) c = in_constant
naive_is_final x s (name y) c = go (eqb x y) refl
  where
    go : (b : Bool) → eqb x y ≡ b → FinalSub x s (name y) (cond b s (name y))
    go true p = subst (λ (z : Name). FinalSub x s (name z) s) (eqb-true x y p) in_itself
    go false p = in_other (eqb-false x y p)
naive_is_final x s (app e₁ e₂) c = in_app (naive_is_final x s e₁ c) (naive_is_final x s e₂ c)
naive_is_final x s (if_then_else e₀ e₁ e₂) c = in_if (naive_is_final x s e₀ c) (naive_is_final x s e₁ c) (naive_is_final x s e₂ c)
naive_is_final x s (lambda y e) c = in_lambda (naive_under x y s e c (naive_is_final x s e c))
naive_is_final x s (let_in y e₁ e₂) c = in_let (naive_is_final x s e₁ c) (naive_under x y s e₂ c (naive_is_final x s e₂ c))
naive_is_final x s (rec y e) c = in_rec (naive_under x y s e c (naive_is_final x s e c))
