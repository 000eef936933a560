-- Values stand for values; what happens to the expression in a context happens to the whole; to enter a body is to substitute.
use Rattle.std.specs.Prelude.{ℕ, ◌<◌, List}
use Rattle.std.proofs.Common.{inl, inr}
use Rattle.language.specs.Expression.{Name, Exp, Free, Closed}
use Rattle.language.specs.Expression as L2
use Rattle.language.specs.Integers.{Exception}
use Rattle.language.specs.Substitution.{sub}
use Rattle.language.specs.SmallStep as Small
use Rattle.language.specs.SmallStep.{raised, APP_LEFT, APP_LEFT_EXN, APP_RIGHT, APP_RIGHT_EXN, COND_EVAL, COND_EVAL_EXN, LET_EVAL, LET_EVAL_EXN}
use Rattle.language.specs.Move.{move}
use Rattle.language.proofs.MoveDecides.{value_is_move, move_is_stuck, stuck_is_move}
use Rattle.language.proofs.ClosedSteps.{sub_closed}
use Rattle.table.specs.Node.{Nodes}
use Rattle.table.specs.ExpressionOf.{exp_at}
use Rattle.semantics.specs.Machine.{Value, Chain, Frame, evaluate}
use Rattle.semantics.specs.Answer.{value_answer}
use Rattle.semantics.specs.SmallEnd.{EndsAs, a_function, a_lambda, an_operator_with}
use Rattle.semantics.specs.SmallEnd as Ends
use Rattle.semantics.proofs.Close.{Replacement, bind, hide, close, Apart, nothing_apart, bind_keeps_apart, put_in}
use Rattle.semantics.proofs.Standing.{ValueFor, the_unit, a_boolean, an_integer, an_operator, with_integer, with_other, a_closure, ChainFor, nothing_bound}
use Rattle.semantics.proofs.Standing.{binding, rec_binding, Around, nothing_around, left_of, right_of, condition_of, bound_in, StateFor, evaluating}

closed_part : {e e' : Exp} → ((x : Name) → Free x e → Free x e') → Closed e' → Closed e
closed_part f c = record { nothing_free = λ x free. c.nothing_free x (f x free) }

module _ {nd : Nodes} {n : ℕ} where
  -- ---- Values

  pub is_value : {v : Value} {w : Exp} → ValueFor nd n v w → L2.Value w
  is_value the_unit = L2.constant_value
  is_value a_boolean = L2.constant_value
  is_value an_integer = L2.constant_value
  is_value an_operator = L2.constant_value
  is_value with_integer = L2.operator_value L2.constant_value
  is_value (with_other w p) = L2.operator_value w
  is_value (a_closure h η) = L2.lambda_value

  pub value_ends : {v : Value} {w : Exp} → ValueFor nd n v w → EndsAs w (value_answer v)
  value_ends the_unit = Ends.the_unit Small.done
  value_ends a_boolean = Ends.a_boolean Small.done
  value_ends an_integer = Ends.an_integer Small.done
  value_ends an_operator = a_function Small.done Ends.an_operator
  value_ends with_integer = a_function Small.done (an_operator_with L2.constant_value)
  value_ends (with_other w p) = a_function Small.done (an_operator_with w)
  value_ends (a_closure h η) = a_function Small.done a_lambda

  -- ---- Contexts

  pub steps_around : {frames : List Frame} {context : Exp → Exp} {e e' : Exp} → Around nd n frames context →
      Small.Step e (Small.next e') → Small.Step (context e) (Small.next (context e'))
  steps_around nothing_around d = d
  steps_around (left_of h η around) d = steps_around around (APP_LEFT d)
  steps_around (right_of v around) d = steps_around around (APP_RIGHT (is_value v) d)
  steps_around (condition_of h h' η around) d = steps_around around (COND_EVAL d)
  steps_around (bound_in h η around) d = steps_around around (LET_EVAL d)

  pub raises_around : {frames : List Frame} {context : Exp → Exp} {e : Exp} {x : Exception} → Around nd n frames context →
      Small.Step e (raised x) → Small.Step (context e) (raised x)
  raises_around nothing_around d = d
  raises_around (left_of h η around) d = raises_around around (APP_LEFT_EXN d)
  raises_around (right_of v around) d = raises_around around (APP_RIGHT_EXN (is_value v) d)
  raises_around (condition_of h h' η around) d = raises_around around (COND_EVAL_EXN d)
  raises_around (bound_in h η around) d = raises_around around (LET_EVAL_EXN d)

  pub stuck_around : {frames : List Frame} {context : Exp → Exp} {e : Exp} → Around nd n frames context → Small.Stuck e → Small.Stuck (context e)
  unfolding move
  stuck_around nothing_around s = s
  stuck_around (left_of h η around) s = stuck_around around (move_is_stuck _ (rw (stuck_is_move s)))
  stuck_around (right_of v around) s = stuck_around around (move_is_stuck _ (rw (value_is_move (is_value v), stuck_is_move s)))
  stuck_around (condition_of h h' η around) s = stuck_around around (move_is_stuck _ (rw (stuck_is_move s)))
  stuck_around (bound_in h η around) s = stuck_around around (move_is_stuck _ (rw (stuck_is_move s)))

  pub closed_inside : {frames : List Frame} {context : Exp → Exp} {e : Exp} → Around nd n frames context → Closed (context e) → Closed e
  closed_inside nothing_around c = c
  closed_inside (left_of h η around) c = closed_part (λ x. inl) (closed_inside around c)
  closed_inside (right_of v around) c = closed_part (λ x. inr) (closed_inside around c)
  closed_inside (condition_of h h' η around) c = closed_part (λ x. inl) (closed_inside around c)
  closed_inside (bound_in h η around) c = closed_part (λ x. inl) (closed_inside around c)

  -- ---- Environments

  entries_apart : {η : Chain} {σ : Replacement} (x : Name) (s : Exp) → ChainFor nd n η σ → Apart x s σ
  entries_apart x s nothing_bound = nothing_apart x s
  entries_apart x s (binding {x = y} {w} v c η) = bind_keeps_apart x s y w (sub_closed x s w c) (entries_apart x s η)
  entries_apart x s (rec_binding {x = y} h q c η) = bind_keeps_apart x s y _ (sub_closed x s _ c) (entries_apart x s η)

  -- A body is entered with one more binding, which the small step substitutes in it.
  pub entered : {k : ℕ} {η η' : Chain} {σ : Replacement} {frames : List Frame} {context : Exp → Exp} (x : Name) (w : Exp) → k < n → ChainFor nd n η σ →
      ChainFor nd n η' (bind x w σ) → Around nd n frames context → StateFor nd n (evaluate k η' frames) (context (sub x w (close (hide x σ) (exp_at nd n k))))
  entered {k} {σ} x w h η η' around = rw (← put_in x w (exp_at nd n k) σ (entries_apart x w η)) (evaluating h η' around)
