-- `move` decides the small steps: every expression steps, is a value, or is stuck, exactly as its move says.
use Rattle.std.specs.Prelude.{ℕ, ◌≡◌, refl, true, false, ℤ, Option, None, Some}
use Rattle.std.proofs.Common.{ap, subst, arith}
use Rattle.language.specs.Expression.{Operator, Exp, Value, unit_element, boolean, integer, operator, constant, name}
use Rattle.language.specs.Expression.{app, if_then_else, lambda, let_in, rec, constant_value, lambda_value, operator_value}
use Rattle.language.specs.Integers.{Exception}
use Rattle.language.specs.SmallStep.{Result, next, raised, Step, OP, BETA_V, APP_LEFT, APP_LEFT_EXN, APP_RIGHT, APP_RIGHT_EXN}
use Rattle.language.specs.SmallStep.{COND_EVAL, COND_EVAL_EXN, COND_TRUE, COND_FALSE, LET_EVAL, LET_EVAL_EXN, LET_EXEC, UNFOLD, Stuck}
use Rattle.language.specs.Move.{Move, steps, value, stuck, within, as_function, as_integer, combined, applied_as, chooses, move}

-- What a move says of an expression.
abbrev pub Decided : Exp → Move → Type 0
Decided e (steps r) = Step e r
Decided e value = Value e
Decided e stuck = Stuck e

-- ---- The relation determines the move

pub value_is_move : {v : Exp} → Value v → move v ≡ value
unfolding move as_function
value_is_move constant_value = refl
value_is_move lambda_value = refl
value_is_move (operator_value w) = rw (value_is_move w)

pub step_is_move : {e : Exp} {r : Result} → Step e r → move e ≡ steps r
unfolding move as_function
step_is_move (OP p) = ap steps p
step_is_move (BETA_V w) = rw (value_is_move w)
step_is_move (APP_LEFT d) = rw (step_is_move d)
step_is_move (APP_LEFT_EXN d) = rw (step_is_move d)
step_is_move (APP_RIGHT v d) = rw (value_is_move v, step_is_move d)
step_is_move (APP_RIGHT_EXN v d) = rw (value_is_move v, step_is_move d)
step_is_move (COND_EVAL d) = rw (step_is_move d)
step_is_move (COND_EVAL_EXN d) = rw (step_is_move d)
step_is_move COND_TRUE = refl
step_is_move COND_FALSE = refl
step_is_move (LET_EVAL d) = rw (step_is_move d)
step_is_move (LET_EVAL_EXN d) = rw (step_is_move d)
step_is_move (LET_EXEC w) = rw (value_is_move w)
step_is_move UNFOLD = refl

-- ---- The move finds the step or the value

-- `Decided` without stuck, which has no derivation to find: it follows from the two lemmas above.
abbrev Found : Exp → Move → Type 0
Found e (steps r) = Step e r
Found e value = Value e
Found e stuck = Unit

-- One place of evaluation, with its rules (R) and (R-EXN): a value there leaves the choice to `otherwise`.
module _ {e : Exp} (around : Exp → Exp) (r : (e' : Exp) → Step e (next e') → Step (around e) (next (around e'))) (r_exn : (ep : Exception) → Step e (raised ep) → Step (around e) (raised ep)) where
  place : (otherwise : Move) → (Value e → Found (around e) otherwise) → (m : Move) → Found e m → Found (around e) (within around m otherwise)
  place otherwise rest (steps (next e')) d = r e' d
  place otherwise rest (steps (raised ep)) d = r_exn ep d
  place otherwise rest value v = rest v
  place otherwise rest stuck u = u

-- What `as_integer` reads.
data Reads : Exp → Option ℤ → Type 0 where
  reads_integer : {n : ℤ} → Reads (constant (integer n)) (Some n)
  reads_none : {e : Exp} → Reads e None

integer_read : (e : Exp) → Reads e (as_integer e)
integer_read (constant unit_element) = reads_none
integer_read (constant (boolean b)) = reads_none
integer_read (constant (integer n)) = reads_integer
integer_read (constant (operator o)) = reads_none
integer_read (name x) = reads_none
integer_read (app e₁ e₂) = reads_none
integer_read (if_then_else e₀ e₁ e₂) = reads_none
integer_read (lambda x e) = reads_none
integer_read (let_in x e₁ e₂) = reads_none
integer_read (rec x e) = reads_none

operator_found : (o : Operator) {u v : Exp} {m n : Option ℤ} → Reads u m → Reads v n → Found (app (app (constant (operator o)) u) v) (combined o m n)
operator_found o reads_integer reads_integer = OP refl
operator_found o reads_integer reads_none = tt
operator_found o reads_none i = tt

application_found : {v w : Exp} → Value v → Value w → Found (app v w) (applied_as (as_function v) w)
unfolding as_function
application_found {v = constant unit_element} constant_value w = tt
application_found {v = constant (boolean b)} constant_value w = tt
application_found {v = constant (integer n)} constant_value w = tt
application_found {v = constant (operator o)} constant_value w = operator_value w
application_found lambda_value w = BETA_V w
application_found {w = v} (operator_value {o} {v = u} _) w = operator_found o (integer_read u) (integer_read v)

choice_found : {v : Exp} (e₁ e₂ : Exp) → Value v → Found (if_then_else v e₁ e₂) (chooses v e₁ e₂)
choice_found {v = constant unit_element} e₁ e₂ constant_value = tt
choice_found {v = constant (boolean true)} e₁ e₂ constant_value = COND_TRUE
choice_found {v = constant (boolean false)} e₁ e₂ constant_value = COND_FALSE
choice_found {v = constant (integer n)} e₁ e₂ constant_value = tt
choice_found {v = constant (operator o)} e₁ e₂ constant_value = tt
choice_found e₁ e₂ lambda_value = tt
choice_found e₁ e₂ (operator_value w) = tt

move_found : (e : Exp) → Found e (move e)
unfolding move
move_found (constant c) = constant_value
move_found (name x) = tt
move_found (app e₁ e₂) =
    place (λ e. app e e₂) (λ e'. APP_LEFT) (λ ep. APP_LEFT_EXN) _
    (λ v. place (app e₁) (λ e'. APP_RIGHT v) (λ ep. APP_RIGHT_EXN v) _ (application_found v) (move e₂) (move_found e₂)) (move e₁) (move_found e₁)
move_found (if_then_else e₀ e₁ e₂) =
    place (λ e. if_then_else e e₁ e₂) (λ e'. COND_EVAL) (λ ep. COND_EVAL_EXN) _ (choice_found e₁ e₂) (move e₀) (move_found e₀)
move_found (lambda x e) = lambda_value
move_found (let_in x e₁ e₂) = place (λ e. let_in x e e₂) (λ e'. LET_EVAL) (λ ep. LET_EVAL_EXN) _ LET_EXEC (move e₁) (move_found e₁)
move_found (rec x e) = UNFOLD

-- ---- Every expression is in exactly one of the three cases

pub move_is_stuck : (e : Exp) → move e ≡ stuck → Stuck e
move_is_stuck e p =
    record {
      no_value = λ v. let z : ◌≡◌ {A = ℕ} 0 1 = cc (value_is_move v) in omega arith;
      no_step = record { none = λ r d. let z : ◌≡◌ {A = ℕ} 0 1 = cc (step_is_move d) in omega arith };
    }

pub move_decides : (e : Exp) → Decided e (move e)
move_decides e = go (move e) refl (move_found e)
  where
    go : (m : Move) → move e ≡ m → Found e m → Decided e m
    go (steps r) p d = d
    go value p v = v
    go stuck p u = move_is_stuck e p

pub stuck_is_move : {e : Exp} → Stuck e → move e ≡ stuck
stuck_is_move {e} s = go (move e) (move_decides e)
  where
    go : (m : Move) → Decided e m → m ≡ stuck
    go (steps r) d = absurd (s.no_step.none r d)
    go value v = absurd (s.no_value v)
    go stuck u = refl

pub move_is_step : (e : Exp) (r : Result) → move e ≡ steps r → Step e r
move_is_step e r p = subst (Decided e) p (move_decides e)

pub move_is_value : (e : Exp) → move e ≡ value → Value e
move_is_value e p = subst (Decided e) p (move_decides e)
