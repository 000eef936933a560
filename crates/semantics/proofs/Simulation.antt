-- Each step of the machine is one small step of what its state stands for, or none and less work is left; where the machine ends, the
-- small steps end as its answer tells.
use Rattle.std.specs.Prelude.{ℕ, ◌+◌, ◌<◌, ◌≡◌, refl, Bool, true, false, cond, List, eqb, ℤ, None, Some}
use Rattle.std.proofs.Common.{arith}
use Rattle.language.specs.Expression.{Name, Operator, Constant, unit_element, boolean, integer, operator, Exp, constant, name, app, if_then_else, rec, Closed}
use Rattle.language.specs.Expression as L2
use Rattle.language.specs.Integers.{Outcome, number, truth, exception, meaning}
use Rattle.language.specs.SmallStep as Small
use Rattle.language.specs.SmallStep.{result_of, OP, BETA_V, COND_TRUE, COND_FALSE, LET_EXEC, UNFOLD}
use Rattle.language.specs.Move.{as_integer, as_function, move, stuck}
use Rattle.language.specs.Move as Moves
use Rattle.language.proofs.MoveDecides.{value_is_move, move_is_stuck}
use Rattle.table.specs.Node.{Node, Nodes, constant_node, name_node, application_node, if_node, lambda_node, let_node, rec_node, Field, field_a, field_b, field_c, child, Kid}
use Rattle.table.specs.ExpressionOf.{shape, exp_at}
use Rattle.table.specs.Tree.{Descending}
use Rattle.table.specs.ExpressionLaws.{exp_is}
use Rattle.semantics.specs.Limits.{Need, nothing, at_end, last_step, steps_to}
use Rattle.semantics.specs.Machine.{Value, integer_value, operator_with_other, Chain, Frame, State, End, stuck_at, Step, value_of_constant}
use Rattle.semantics.specs.Machine.{newest_binding, evaluated, with_first, resulted, completed, applied, chosen, returned, next}
use Rattle.semantics.specs.Answer.{end_answer}
use Rattle.semantics.specs.SmallEnd.{EndsAs, an_exception, got_stuck}
use Rattle.semantics.proofs.Close.{Replacement, close}
use Rattle.semantics.proofs.Standing.{ValueFor, the_unit, a_boolean, an_integer, an_operator, with_integer, with_other, a_closure, ChainFor, nothing_bound, binding, rec_binding}
use Rattle.semantics.proofs.Standing.{Around, nothing_around, left_of, right_of, condition_of, bound_in, StateFor, evaluating, returning, work, frames_work, state_work}
use Rattle.semantics.proofs.StandingLaws.{is_value, value_ends, steps_around, raises_around, stuck_around, closed_inside, entered}

-- What the next step of the machine is to an expression e, with so much work left.
pub data Simulates (nd : Nodes) (n : ℕ) (e : Exp) (left : ℕ) : Step → Type 0 where
  at_its_end : {end : End} → EndsAs e (end_answer end) → Simulates nd n e left (at_end end)
  at_last : {end : End} → EndsAs e (end_answer end) → Simulates nd n e left (last_step end)
  no_small_step : {need : Need} {s : State} → StateFor nd n s e → state_work nd n s < left → Simulates nd n e left (steps_to need s)
  small_step : {need : Need} {s : State} {e' : Exp} → Small.Step e (Small.next e') → StateFor nd n s e' → Simulates nd n e left (steps_to need s)

-- ---- Operators

-- Whether a value is an integer, and what the machine does where it is none.
data Integral : Value → Exp → Type 0 where
  integral : {m : ℤ} → Integral (integer_value m) (constant (integer m))
  other : {v : Value} {w : Exp} → as_integer w ≡ None → ((o : Operator) → with_first o v ≡ operator_with_other o) →
      ((o : Operator) (m : ℤ) (k : ℕ) (frames : List Frame) → completed o m v k frames ≡ at_end (stuck_at k)) → Integral v w

stuck_application : {f w : Exp} → L2.Value f → L2.Value w → Moves.applied_as (as_function f) w ≡ stuck → Small.Stuck (app f w)
unfolding move
stuck_application {f} {w} function value p = move_is_stuck (app f w) (rw (value_is_move function, value_is_move value) p)

module _ {nd : Nodes} {n : ℕ} where
  integral_or_other : {v : Value} {w : Exp} → ValueFor nd n v w → Integral v w
  integral_or_other the_unit = other refl (λ o. refl) (λ o m k frames. refl)
  integral_or_other a_boolean = other refl (λ o. refl) (λ o m k frames. refl)
  integral_or_other an_integer = integral
  integral_or_other an_operator = other refl (λ o. refl) (λ o m k frames. refl)
  integral_or_other with_integer = other refl (λ o. refl) (λ o m k frames. refl)
  integral_or_other (with_other w p) = other refl (λ o. refl) (λ o m k frames. refl)
  integral_or_other (a_closure h η) = other refl (λ o. refl) (λ o m k frames. refl)

  with_first_lem : {v : Value} {w : Exp} (o : Operator) → L2.Value w → Integral v w → ValueFor nd n (with_first o v) (app (constant (operator o)) w)
  with_first_lem o value integral = with_integer
  with_first_lem o value (other p first second) = rw (first o) (with_other value p)

  constant_for : (c : Constant) → ValueFor nd n (value_of_constant c) (constant c)
  constant_for unit_element = the_unit
  constant_for (boolean b) = a_boolean
  constant_for (integer m) = an_integer
  constant_for (operator o) = an_operator

  module _ {frames : List Frame} {context : Exp → Exp} (around : Around nd n frames context) where
    abbrev pending : ℕ
    pending = frames_work nd n frames

    stuck_here : {e : Exp} {m : ℕ} (k : ℕ) → Small.Stuck e → Simulates nd n (context e) m (at_end (stuck_at k))
    stuck_here k s = at_its_end (got_stuck Small.done (stuck_around around s))

    -- The newest binding, if its name is the one, else what the rest of the chain gives.
    newest_or_rest : {e e' : Exp} {s : State} {m : ℕ} {step : Step} (b : Bool) → StateFor nd n s (context e) → state_work nd n s < m → Simulates nd n (context e') m step →
        Simulates nd n (context (cond b e e')) m (cond b (steps_to nothing s) step)
    newest_or_rest true stands less rest = no_small_step stands less
    newest_or_rest false stands less rest = rest

    looked_up : {η : Chain} {σ : Replacement} (x : Name) (k : ℕ) → ChainFor nd n η σ → Simulates nd n (context (σ x)) (2 + pending) (newest_binding x η k frames)
    unfolding newest_binding work move
    looked_up x k nothing_bound = stuck_here k (move_is_stuck (name x) refl)
    looked_up x k (binding {x = y} v c η) = newest_or_rest (eqb y x) (returning v around) (omega arith) (looked_up x k η)
    looked_up x k (rec_binding {x = y} h q c η) = newest_or_rest (eqb y x) (rw (← q) (evaluating h η around)) (rw q (omega arith)) (looked_up x k η)

    -- ---- Return

    result_simulated : {m : ℕ} {e : Exp} (outcome : Outcome) → Small.Step e (result_of outcome) → Simulates nd n (context e) m (resulted outcome frames)
    result_simulated (number m) d = small_step (steps_around around d) (returning an_integer around)
    result_simulated (truth b) d = small_step (steps_around around d) (returning a_boolean around)
    result_simulated (exception x) d = at_last (an_exception Small.done (raises_around around d))

    operator_simulated : {v : Value} {w : Exp} {l : ℕ} (o : Operator) (m : ℤ) (k : ℕ) → L2.Value w → Integral v w →
        Simulates nd n (context (app (app (constant (operator o)) (constant (integer m))) w)) l (completed o m v k frames)
    unfolding as_function
    operator_simulated o m k value (integral {m = j}) = result_simulated (meaning o m j) (OP refl)
    operator_simulated o m k value (other p first second) =
        rw (second o m k frames) (stuck_here k (stuck_application (L2.operator_value L2.constant_value) value (rw p)))

    application_simulated : {u v : Value} {f w : Exp} (k : ℕ) → ValueFor nd n u f → ValueFor nd n v w → Closed w →
        Simulates nd n (context (app f w)) (1 + pending) (applied u v k frames)
    unfolding as_function
    application_simulated k the_unit v c = stuck_here k (stuck_application L2.constant_value (is_value v) refl)
    application_simulated k a_boolean v c = stuck_here k (stuck_application L2.constant_value (is_value v) refl)
    application_simulated k an_integer v c = stuck_here k (stuck_application L2.constant_value (is_value v) refl)
    application_simulated k (an_operator {o}) v c = no_small_step (returning (with_first_lem o (is_value v) (integral_or_other v)) around) (omega arith)
    application_simulated k (with_integer {o} {m}) v c = operator_simulated o m k (is_value v) (integral_or_other v)
    application_simulated k (with_other u p) v c = stuck_here k (stuck_application (L2.operator_value u) (is_value v) (rw p))
    application_simulated {w} k (a_closure {x} h η) v c = small_step (steps_around around (BETA_V (is_value v))) (entered x w h η (binding v c η) around)

    choice_simulated : {v : Value} {w : Exp} {η : Chain} {σ : Replacement} {m e₁ e₂ : ℕ} (k : ℕ) → ValueFor nd n v w → e₁ < n → e₂ < n → ChainFor nd n η σ →
        Simulates nd n (context (if_then_else w (close σ (exp_at nd n e₁)) (close σ (exp_at nd n e₂)))) m (chosen v k e₁ e₂ η frames)
    unfolding move as_function
    choice_simulated k the_unit h₁ h₂ η = stuck_here k (move_is_stuck _ refl)
    choice_simulated k (a_boolean {b = true}) h₁ h₂ η = small_step (steps_around around COND_TRUE) (evaluating h₁ η around)
    choice_simulated k (a_boolean {b = false}) h₁ h₂ η = small_step (steps_around around COND_FALSE) (evaluating h₂ η around)
    choice_simulated k an_integer h₁ h₂ η = stuck_here k (move_is_stuck _ refl)
    choice_simulated k an_operator h₁ h₂ η = stuck_here k (move_is_stuck _ refl)
    choice_simulated k with_integer h₁ h₂ η = stuck_here k (move_is_stuck _ refl)
    choice_simulated k (with_other w p) h₁ h₂ η = stuck_here k (move_is_stuck _ (rw (value_is_move w)))
    choice_simulated k (a_closure h ζ) h₁ h₂ η = stuck_here k (move_is_stuck _ refl)

  return_simulated : {v : Value} {w : Exp} {frames : List Frame} {context : Exp → Exp} → ValueFor nd n v w → Around nd n frames context → Closed (context w) →
      Simulates nd n (context w) (frames_work nd n frames) (returned v frames)
  unfolding frames_work
  return_simulated v nothing_around c = at_its_end (value_ends v)
  return_simulated v (left_of {k} h η around) c = no_small_step (evaluating h η (right_of {k = k} v around)) (omega arith)
  return_simulated v (right_of {k} u around) c = application_simulated around k u v (closed_inside (right_of {k = k} u around) c)
  return_simulated v (condition_of {k} h₁ h₂ η around) c = choice_simulated around k v h₁ h₂ η
  return_simulated {w} v (bound_in {x} h η around) c =
      small_step (steps_around around (LET_EXEC (is_value v))) (entered x w h η (binding v (closed_inside (bound_in h η around) c) η) around)

-- ---- Evaluate

module _ {nd : Nodes} {n : ℕ} (descending : Descending nd n) where
  evaluate_simulated : {k : ℕ} {η : Chain} {σ : Replacement} {frames : List Frame} {context : Exp → Exp} → k < n → ChainFor nd n η σ →
      Around nd n frames context → Closed (context (close σ (exp_at nd n k))) →
      Simulates nd n (context (close σ (exp_at nd n k))) (work (exp_at nd n k) + frames_work nd n frames) (evaluated newest_binding (nd k) k η frames)
  unfolding close work frames_work
  evaluate_simulated {k} {η} {σ} {frames} {context} below chain around c = rw (exp_is descending k below) (go (nd k) refl)
    where
      inside : {node : Node} {j : ℕ} (f : Field) → nd k ≡ node → child node f ≡ Some j → j < n
      inside {j} f e stands =
          let kid : Kid nd k f j = record { stands = rw e stands } in
          descending.inside below kid

      go : (node : Node) → nd k ≡ node →
          Simulates nd n (context (close σ (shape (exp_at nd n) node))) (work (shape (exp_at nd n) node) + frames_work nd n frames) (evaluated newest_binding node k η frames)
      go (constant_node a) e = no_small_step (returning (constant_for a) around) (omega arith)
      go (name_node x) e = looked_up around x k chain
      go (application_node l r) e = no_small_step (evaluating (inside field_a e refl) chain (left_of {k = k} (inside field_b e refl) chain around)) (omega arith)
      go (if_node e₀ e₁ e₂) e =
          no_small_step (evaluating (inside field_a e refl) chain (condition_of {k = k} (inside field_b e refl) (inside field_c e refl) chain around)) (omega arith)
      go (lambda_node x b) e = no_small_step (returning (a_closure (inside field_b e refl) chain) around) (omega arith)
      go (let_node x e₁ e₂) e = no_small_step (evaluating (inside field_b e refl) chain (bound_in (inside field_c e refl) chain around)) (omega arith)
      go (rec_node x b) e =
          let q : exp_at nd n k ≡ rec x (exp_at nd n b) = rw e at (exp_is descending k below) in
          small_step (steps_around around UNFOLD) (entered x _ (inside field_b e refl) chain (rec_binding below q (closed_inside around (rw q at c)) chain) around)

  pub simulated : {s : State} {e : Exp} → StateFor nd n s e → Closed e → Simulates nd n e (state_work nd n s) (next nd s)
  simulated (evaluating below chain around) c = evaluate_simulated below chain around c
  simulated (returning v around) c = return_simulated v around c
