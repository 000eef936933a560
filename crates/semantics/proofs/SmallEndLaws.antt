-- The small steps of an expression end in one way at most.
use Rattle.std.specs.Prelude.{ℕ, ◌≡◌, refl}
use Rattle.std.proofs.Common.{arith}
use Rattle.language.specs.Expression.{Value, Exp, constant_value, lambda_value, operator_value}
use Rattle.language.specs.Integers.{Exception}
use Rattle.language.specs.SmallStep.{next, raised, Step, Stuck, Steps, done, then, Diverges}
use Rattle.language.specs.Move.{Move, steps, value, stuck, move}
use Rattle.language.proofs.MoveDecides.{value_is_move, step_is_move, stuck_is_move}
use Rattle.language.proofs.Determinism.{values_do_not_step, steps_are_deterministic}
use Rattle.semantics.specs.Answer.{DefinedAnswer, unit_answer, function_answer, exception_answer, stuck_answer}
use Rattle.semantics.specs.SmallEnd.{Function, a_lambda, an_operator, an_operator_with, EndsAs, an_integer, a_boolean, the_unit, a_function, an_exception, got_stuck}
use Rattle.semantics.specs.Reached.{answer_for}

-- Where the small steps of an expression end: at a value, at one whose step raises an exception, or stuck.
pub data Final (e : Exp) : Type 0 where
  at_value : Value e → Final e
  at_exception : {x : Exception} → Step e (raised x) → Final e
  at_stuck : Stuck e → Final e

-- The same answer, but for the node of a stuck run.
pub data Alike : DefinedAnswer → DefinedAnswer → Type 0 where
  same : {a : DefinedAnswer} → Alike a a
  both_stuck : {j k : ℕ} → Alike (stuck_answer j) (stuck_answer k)

-- What steps to an expression ends as that does.
pub ends_before : {e e' : Exp} {a : DefinedAnswer} → Step e (next e') → EndsAs e' a → EndsAs e a
ends_before d (an_integer ds) = an_integer (then d ds)
ends_before d (a_boolean ds) = a_boolean (then d ds)
ends_before d (the_unit ds) = the_unit (then d ds)
ends_before d (a_function ds f) = a_function (then d ds) f
ends_before d (an_exception ds x) = an_exception (then d ds) x
ends_before d (got_stuck ds s) = got_stuck (then d ds) s

-- ---- The end is one

pub final_has_no_next : {e e' : Exp} → Final e → ¬ Step e (next e')
final_has_no_next (at_value v) d = (values_do_not_step v).none _ d
final_has_no_next (at_exception x) d = let z : ◌≡◌ {A = ℕ} 0 1 = cc (steps_are_deterministic d x) in omega arith
final_has_no_next (at_stuck s) d = s.no_step.none _ d

final_is_one : {e e₁ e₂ : Exp} → Steps e e₁ → Final e₁ → Steps e e₂ → Final e₂ → e₁ ≡ e₂
final_is_one done f₁ done f₂ = refl
final_is_one done f₁ (then d ds) f₂ = absurd (final_has_no_next f₁ d)
final_is_one (then d ds) f₁ done f₂ = absurd (final_has_no_next f₂ d)
final_is_one (then {e'} d₁ ds₁) f₁ (then {e' = e''} d₂ ds₂) f₂ =
    let one : e'' ≡ e' = cc (steps_are_deterministic d₁ d₂) in
    final_is_one ds₁ f₁ (rw one at ds₂) f₂

-- The answer that a last expression is, with a node for a stuck one.
abbrev move_answer : Move → Exp → ℕ → DefinedAnswer
move_answer (steps (next e')) e k = unit_answer
move_answer (steps (raised x)) e k = exception_answer x
move_answer value e k = answer_for e
move_answer stuck e k = stuck_answer k

-- An end with its last expression.
record Ended (e : Exp) (a : DefinedAnswer) : Type 0 where
  last : Exp
  node : ℕ
  reached : Steps e last
  final : Final last
  tells : a ≡ move_answer (move last) last node

function_value : {v : Exp} → Function v → Value v
function_value a_lambda = lambda_value
function_value an_operator = constant_value
function_value (an_operator_with w) = operator_value w

function_answers : {v : Exp} → Function v → function_answer ≡ answer_for v
function_answers a_lambda = refl
function_answers an_operator = refl
function_answers (an_operator_with w) = refl

value_ended : {e v : Exp} {a : DefinedAnswer} → Steps e v → Value v → a ≡ answer_for v → Ended e a
value_ended ds v p = record { last = _; node = 0; reached = ds; final = at_value v; tells = rw (value_is_move v) p }

ended : {e : Exp} {a : DefinedAnswer} → EndsAs e a → Ended e a
ended (an_integer ds) = value_ended ds constant_value refl
ended (a_boolean ds) = value_ended ds constant_value refl
ended (the_unit ds) = value_ended ds constant_value refl
ended (a_function ds f) = value_ended ds (function_value f) (function_answers f)
ended (an_exception ds x) = record { last = _; node = 0; reached = ds; final = at_exception x; tells = rw (step_is_move x) }
ended (got_stuck {k} ds s) = record { last = _; node = k; reached = ds; final = at_stuck s; tells = rw (stuck_is_move s) }

pub small_end_unique : {e : Exp} {a a' : DefinedAnswer} → EndsAs e a → EndsAs e a' → Alike a a'
small_end_unique {e} {a} {a'} d d' = go (ended d) (ended d')
  where
    alike : (m : Move) (e : Exp) (j k : ℕ) → Alike (move_answer m e j) (move_answer m e k)
    alike (steps (next e')) e j k = same
    alike (steps (raised x)) e j k = same
    alike value e j k = same
    alike stuck e j k = both_stuck

    go : Ended e a → Ended e a' → Alike a a'
    go r r' =
        rw (r.tells, r'.tells, final_is_one r.reached r.final r'.reached r'.final) (alike (move r'.last) r'.last r.node r'.node)

pub ends_at_a_final : {e : Exp} {a : DefinedAnswer} → EndsAs e a → (e' : Exp) × Steps e e' × Final e'
ends_at_a_final d = let r = ended d in (r.last, r.reached, r.final)

pub what_ends_does_not_diverge : {e : Exp} {a : DefinedAnswer} → EndsAs e a → ¬ Diverges e
what_ends_does_not_diverge d g =
    let (e', ds, final) = ends_at_a_final d in
    final_has_no_next final (g.goes_on e' ds).1
