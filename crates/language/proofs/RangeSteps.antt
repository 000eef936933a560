-- Steps keep all integers of an expression in range: substitution brings in none but those of what it puts in, and an operator's result is in range.
use Rattle.std.specs.Prelude.{ℕ, ◌≡◌, refl, Bool, true, false, cond, eqb, ℤ}
use Rattle.std.proofs.Common.{subst, arith}
use Rattle.language.specs.Expression.{Name, integer, boolean, Exp, constant, name, app, if_then_else, lambda, let_in, rec}
use Rattle.language.specs.Integers.{Outcome, number, truth, exception, in_range, meaning}
use Rattle.language.proofs.IntegerLaws.{meaning_in_range}
use Rattle.language.specs.Substitution.{sub}
use Rattle.language.specs.SmallStep.{next, result_of, Step, OP, BETA_V, APP_LEFT, APP_RIGHT, COND_EVAL, COND_TRUE, COND_FALSE, LET_EVAL, LET_EXEC, UNFOLD, Steps, done, then}
use Rattle.language.specs.AllInRange.{AllInRange}

-- ---- Substitution

either_in_range : (b : Bool) (e₁ e₂ : Exp) → AllInRange e₁ → AllInRange e₂ → AllInRange (cond b e₁ e₂)
either_in_range true e₁ e₂ h₁ h₂ = h₁
either_in_range false e₁ e₂ h₁ h₂ = h₂

pub sub_in_range : (x : Name) (s e : Exp) → AllInRange s → AllInRange e → AllInRange (sub x s e)
unfolding sub
sub_in_range x s (constant c) h i = i
sub_in_range x s (name y) h i = either_in_range (eqb x y) s (name y) h tt
sub_in_range x s (app e₁ e₂) h (i₁, i₂) = (sub_in_range x s e₁ h i₁, sub_in_range x s e₂ h i₂)
sub_in_range x s (if_then_else e₀ e₁ e₂) h (i₀, i₁, i₂) = (sub_in_range x s e₀ h i₀, sub_in_range x s e₁ h i₁, sub_in_range x s e₂ h i₂)
sub_in_range x s (lambda y e) h i = either_in_range (eqb x y) e (sub x s e) i (sub_in_range x s e h i)
sub_in_range x s (let_in y e₁ e₂) h (i₁, i₂) = (sub_in_range x s e₁ h i₁, either_in_range (eqb x y) e₂ (sub x s e₂) i₂ (sub_in_range x s e₂ h i₂))
sub_in_range x s (rec y e) h i = either_in_range (eqb x y) e (sub x s e) i (sub_in_range x s e h i)

-- ---- Steps

outcome_in_range : (t : Outcome) {e : Exp} → ((z : ℤ) → t ≡ number z → in_range z ≡ true) → result_of t ≡ next e → AllInRange e
outcome_in_range (number z) {e} h p = let q : constant (integer z) ≡ e = cc in subst AllInRange q (h z refl)
outcome_in_range (truth b) {e} h p = let q : constant (boolean b) ≡ e = cc in subst AllInRange q tt
outcome_in_range (exception x) h p = absurd (let z : ◌≡◌ {A = ℕ} 0 1 = cc in omega arith)

pub step_stays_in_range : {e e' : Exp} → Step e (next e') → AllInRange e → AllInRange e'
step_stays_in_range (OP {o} {m} {n} p) ((_, m_in), n_in) = outcome_in_range (meaning o m n) (λ z is. meaning_in_range o m n m_in n_in is) p
step_stays_in_range (BETA_V {x} {e} {v} w) (i₁, i₂) = sub_in_range x v e i₂ i₁
step_stays_in_range (APP_LEFT d) (i₁, i₂) = (step_stays_in_range d i₁, i₂)
step_stays_in_range (APP_RIGHT v d) (i₁, i₂) = (i₁, step_stays_in_range d i₂)
step_stays_in_range (COND_EVAL d) (i₀, i₁, i₂) = (step_stays_in_range d i₀, i₁, i₂)
step_stays_in_range COND_TRUE (i₀, i₁, i₂) = i₁
step_stays_in_range COND_FALSE (i₀, i₁, i₂) = i₂
step_stays_in_range (LET_EVAL d) (i₁, i₂) = (step_stays_in_range d i₁, i₂)
step_stays_in_range (LET_EXEC {x} {v} {e} w) (i₁, i₂) = sub_in_range x v e i₁ i₂
step_stays_in_range (UNFOLD {x} {e}) i = sub_in_range x (rec x e) e i i

pub steps_stay_in_range : {e e' : Exp} → Steps e e' → AllInRange e → AllInRange e'
steps_stay_in_range done i = i
steps_stay_in_range (then d ds) i = steps_stay_in_range ds (step_stays_in_range d i)
