-- A closed, typed expression keeps its types and never gets stuck (lecture notes, Lemma 10, Satz 7 to Satz 9).
use Rattle.std.specs.Prelude.{◌≡◌, refl, ◌⊎◌, Bool, true, false, ℤ, pos, negsuc, ◌+ℤ◌, ◌-ℤ◌, ◌*ℤ◌, zero, suc}
use Rattle.std.proofs.Common.{subst, inl, inr, ⊎_elim}
use Rattle.std.specs.Int.Signed.{quot_z, rem_z}
use Rattle.language.specs.Expression.{Name, Operator, plus, minus, times, divide, modulo, less, greater, at_most, at_least, equal, Constant}
use Rattle.language.specs.Expression.{unit_element, boolean, integer, operator, Exp, constant, app, if_then_else, lambda, Value, constant_value, lambda_value, operator_value}
use Rattle.language.specs.Integers.{Exception, Outcome, number, meaning, in_range, number_if, ranged, divided_by}
use Rattle.language.specs.SmallStep.{Result, next, raised, result_of, Step, OP, BETA_V, APP_LEFT, APP_LEFT_EXN, APP_RIGHT, APP_RIGHT_EXN, COND_EVAL}
use Rattle.language.specs.SmallStep.{COND_EVAL_EXN, COND_TRUE, COND_FALSE, LET_EVAL, LET_EVAL_EXN, LET_EXEC, UNFOLD, Steps, done, then, Stuck}
use Rattle.language.specs.Ty.{Ty, unit, bool, int, ◌⇒◌}
use Rattle.language.specs.Environment.{Env, empty}
use Rattle.language.specs.Typing.{gives, type_of, Has, CONST, ID, APP, COND, LET, ABSTR', REC'}
use Rattle.language.proofs.TypingLaws.{substituted}

-- ---- Preservation

-- What a step leads to has the type τ; an exception has every type.
abbrev Typed : Result → Ty → Type 0
Typed (next e) τ = Has empty e τ
Typed (raised ep) τ = Unit

ranged_typed : (z : ℤ) → Typed (result_of (ranged z)) int
ranged_typed z = go (in_range z)
  where
    go : (b : Bool) → Typed (result_of (number_if b z)) int
    go true = CONST refl
    go false = tt

divided_typed : (n : ℤ) (r : Outcome) → Typed (result_of r) int → Typed (result_of (divided_by n r)) int
divided_typed (pos zero) r d = tt
divided_typed (pos (suc n)) r d = d
divided_typed (negsuc n) r d = d

operator_typed : (o : Operator) (m n : ℤ) → Typed (result_of (meaning o m n)) (gives o)
unfolding meaning
operator_typed plus m n = ranged_typed (m +ℤ n)
operator_typed minus m n = ranged_typed (m -ℤ n)
operator_typed times m n = ranged_typed (m *ℤ n)
operator_typed divide m n = divided_typed n (ranged (quot_z m n)) (ranged_typed (quot_z m n))
operator_typed modulo m n = divided_typed n (number (rem_z m n)) (CONST refl)
operator_typed less m n = CONST refl
operator_typed greater m n = CONST refl
operator_typed at_most m n = CONST refl
operator_typed at_least m n = CONST refl
operator_typed equal m n = CONST refl

-- By induction on the step, for all types and results at once.
keeps_types : {e : Exp} {r : Result} {τ : Ty} → Step e r → Has empty e τ → Typed r τ
keeps_types {τ} (OP {o} {m} {n} is) (APP (APP (CONST is_arrow) _) _) =
    let result : gives o ≡ τ = cc in
    subst (λ (r : Result). Typed r τ) is (rw (← result) (operator_typed o m n))
keeps_types (BETA_V _) (APP (ABSTR' d) d₂) = substituted d₂ d
keeps_types (APP_LEFT st) (APP d₁ d₂) = APP (keeps_types st d₁) d₂
keeps_types (APP_LEFT_EXN st) d = tt
keeps_types (APP_RIGHT _ st) (APP d₁ d₂) = APP d₁ (keeps_types st d₂)
keeps_types (APP_RIGHT_EXN _ st) d = tt
keeps_types (COND_EVAL st) (COND d₀ d₁ d₂) = COND (keeps_types st d₀) d₁ d₂
keeps_types (COND_EVAL_EXN st) d = tt
keeps_types COND_TRUE (COND d₀ d₁ d₂) = d₁
keeps_types COND_FALSE (COND d₀ d₁ d₂) = d₂
keeps_types (LET_EVAL st) (LET d₁ d₂) = LET (keeps_types st d₁) d₂
keeps_types (LET_EVAL_EXN st) d = tt
keeps_types (LET_EXEC _) (LET d₁ d₂) = substituted d₁ d₂
keeps_types UNFOLD (REC' d) = substituted (REC' d) d

-- Satz 7
pub preservation : {e e' : Exp} {τ : Ty} → Has empty e τ → Step e (next e') → Has empty e' τ
preservation d st = keeps_types st d

pub preservation_along : {e e' : Exp} {τ : Ty} → Has empty e τ → Steps e e' → Has empty e' τ
preservation_along d done = d
preservation_along d (then st rest) = preservation_along (preservation d st) rest

-- ---- Progress

-- A typed value and its type: a number has type int, a truth value bool, and what has an arrow is a λ, an operator, or an operator with
-- its first number.
pub data Canonical : Exp → Ty → Type 0 where
  the_unit : Canonical (constant unit_element) unit
  a_truth : {b : Bool} → Canonical (constant (boolean b)) bool
  a_number : {n : ℤ} → Canonical (constant (integer n)) int
  a_lambda : {x : Name} {e : Exp} {τ τ' : Ty} → Canonical (lambda x e) (τ ⇒ τ')
  an_operator : {o : Operator} → Canonical (constant (operator o)) (int ⇒ int ⇒ gives o)
  an_operator_with : {o : Operator} {n : ℤ} → Canonical (app (constant (operator o)) (constant (integer n))) (int ⇒ gives o)

constants_canonical : (c : Constant) → Canonical (constant c) (type_of c)
constants_canonical unit_element = the_unit
constants_canonical (boolean b) = a_truth
constants_canonical (integer n) = a_number
constants_canonical (operator o) = an_operator

with_number : {o : Operator} {v : Exp} → Canonical v int → Canonical (app (constant (operator o)) v) (int ⇒ gives o)
with_number a_number = an_operator_with

-- Lemma 10
pub canonical : {Γ : Env Ty} {v : Exp} {τ : Ty} → Value v → Has Γ v τ → Canonical v τ
canonical constant_value (CONST {c} is) = subst (Canonical (constant c)) is (constants_canonical c)
canonical lambda_value (ABSTR' d) = a_lambda
canonical (operator_value {o} {v} val) (APP {τ = τ} {τ' = τ'} (CONST is_arrow) d) =
    let argument : τ ≡ int = cc in
    let result : τ' ≡ int ⇒ gives o = cc in
    rw result (with_number (canonical val (rw argument at d)))

-- e is a value or has a step.
abbrev Goes : Exp → Type 0
Goes e = Value e ⊎ ((r : Result) × Step e r)

values_applied : {v₁ v₂ : Exp} {τ τ' : Ty} → Canonical v₁ (τ ⇒ τ') → Value v₂ → Canonical v₂ τ → Goes (app v₁ v₂)
values_applied a_lambda val c = inr (_, BETA_V val)
values_applied an_operator val c = inl (operator_value val)
values_applied an_operator_with val a_number = inr (_, OP refl)

-- The step of a part is a step of the whole around it.
goes_within : {e whole : Exp} {around : Exp → Exp}
    → ((e' : Exp) → Step e (next e') → Step whole (next (around e')))
    → ((ep : Exception) → Step e (raised ep) → Step whole (raised ep))
    → (r : Result) × Step e r → Goes whole
goes_within goes_on raises (next e', st) = inr (_, goes_on e' st)
goes_within goes_on raises (raised ep, st) = inr (_, raises ep st)

goes_app : {e₁ e₂ : Exp} {τ τ' : Ty} → Has empty e₁ (τ ⇒ τ') → Has empty e₂ τ → Goes e₁ → Goes e₂ → Goes (app e₁ e₂)
goes_app d₁ d₂ (inl v₁) (inl v₂) = values_applied (canonical v₁ d₁) v₂ (canonical v₂ d₂)
goes_app d₁ d₂ (inl v₁) (inr st) = goes_within (λ _. APP_RIGHT v₁) (λ _. APP_RIGHT_EXN v₁) st
goes_app d₁ d₂ (inr st) _ = goes_within (λ _. APP_LEFT) (λ _. APP_LEFT_EXN) st

truth_chooses : {v e₁ e₂ : Exp} → Canonical v bool → Goes (if_then_else v e₁ e₂)
truth_chooses (a_truth {b = true}) = inr (_, COND_TRUE)
truth_chooses (a_truth {b = false}) = inr (_, COND_FALSE)

-- Satz 8
pub progress : {e : Exp} {τ : Ty} → Has empty e τ → Value e ⊎ ((r : Result) × Step e r)
progress (CONST is) = inl constant_value
progress (ID found) = elim found [ ]
progress (APP d₁ d₂) = goes_app d₁ d₂ (progress d₁) (progress d₂)
progress (COND d₀ d₁ d₂) = ⊎_elim (λ v. truth_chooses (canonical v d₀)) (goes_within (λ _. COND_EVAL) (λ _. COND_EVAL_EXN)) (progress d₀)
progress (LET d₁ d₂) = ⊎_elim (λ v. inr (_, LET_EXEC v)) (goes_within (λ _. LET_EVAL) (λ _. LET_EVAL_EXN)) (progress d₁)
progress (ABSTR' d) = inl lambda_value
progress (REC' d) = inr (_, UNFOLD)

-- Satz 9
pub safety : {e e' : Exp} {τ : Ty} → Has empty e τ → Steps e e' → ¬ Stuck e'
safety d steps stuck = ⊎_elim stuck.no_value (λ (r, st). stuck.no_step.none r st) (progress (preservation_along d steps))
