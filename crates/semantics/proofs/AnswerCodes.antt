-- The codes of answers: 10 to 13 of values, 14 and 15 of exceptions, at most 16 of ends, and 17 to 19 of limits.
use Rattle.std.specs.Prelude.{ℕ, ◌-◌, ◌≤◌, ◌≡◌, refl, [], ◌∷◌, get_or}
use Rattle.std.proofs.Common.{◌∙◌, ap, arith}
use Rattle.language.specs.Expression.{Exp}
use Rattle.language.specs.Expression as L2
use Rattle.language.specs.Integers.{Exception, division_by_zero, overflow}
use Rattle.semantics.specs.Limits.{Limit, fuel_limit, binding_limit, frame_limit}
use Rattle.semantics.specs.Machine.{Value, unit_value, boolean_value, integer_value, operator_value, operator_with, operator_with_other, closure, End, done, stuck_at, raised_by}
use Rattle.semantics.specs.Answer.{DefinedAnswer, integer_answer, boolean_answer, unit_answer, function_answer, exception_answer, stuck_answer, limit_answer, code, value_answer, end_answer}
use Rattle.semantics.specs.Reached.{answer_for}

pub value_answer_code : (v : Value) → code (value_answer v) ≤ 13
value_answer_code unit_value = omega arith
value_answer_code (boolean_value b) = omega arith
value_answer_code (integer_value i) = omega arith
value_answer_code (operator_value o) = omega arith
value_answer_code (operator_with o i) = omega arith
value_answer_code (operator_with_other o) = omega arith
value_answer_code (closure x b η) = omega arith

pub exception_code : (x : Exception) → code (exception_answer x) ≤ 15
exception_code division_by_zero = omega arith
exception_code overflow = omega arith

pub end_code : (end : End) → code (end_answer end) ≤ 16
end_code (done v) = omega (arith, value_answer_code v)
end_code (stuck_at k) = omega arith
end_code (raised_by x) = omega (arith, exception_code x)

pub limit_code : (l : Limit) → 17 ≤ code (limit_answer l)
limit_code fuel_limit = omega arith
limit_code binding_limit = omega arith
limit_code frame_limit = omega arith

-- The limit of a code.
abbrev pub limit_at : ℕ → Limit
limit_at c = get_or (fuel_limit ∷ binding_limit ∷ frame_limit ∷ []) (c - 17) fuel_limit

limit_of_code : (a : DefinedAnswer) → 17 ≤ code a → a ≡ limit_answer (limit_at (code a))
limit_of_code (integer_answer n) h = absurd (omega arith)
limit_of_code (boolean_answer b) h = absurd (omega arith)
limit_of_code unit_answer h = absurd (omega arith)
limit_of_code function_answer h = absurd (omega arith)
limit_of_code (exception_answer division_by_zero) h = absurd (omega arith)
limit_of_code (exception_answer overflow) h = absurd (omega arith)
limit_of_code (stuck_answer k) h = absurd (omega arith)
limit_of_code (limit_answer fuel_limit) h = refl
limit_of_code (limit_answer binding_limit) h = refl
limit_of_code (limit_answer frame_limit) h = refl

pub names_the_limit : {a : DefinedAnswer} {c : ℕ} → code a ≡ c → 17 ≤ c → a ≡ limit_answer (limit_at c)
names_the_limit {a} is h = limit_of_code a (omega arith) ∙ ap (λ c. limit_answer (limit_at c)) is

pub answers_10_to_19 : (a : DefinedAnswer) → (10 ≤ code a) × (code a ≤ 19)
answers_10_to_19 (integer_answer n) = omega arith
answers_10_to_19 (boolean_answer b) = omega arith
answers_10_to_19 unit_answer = omega arith
answers_10_to_19 function_answer = omega arith
answers_10_to_19 (exception_answer division_by_zero) = omega arith
answers_10_to_19 (exception_answer overflow) = omega arith
answers_10_to_19 (stuck_answer k) = omega arith
answers_10_to_19 (limit_answer fuel_limit) = omega arith
answers_10_to_19 (limit_answer binding_limit) = omega arith
answers_10_to_19 (limit_answer frame_limit) = omega arith

pub answer_for_code : {v : Exp} → L2.Value v → code (answer_for v) ≤ 13
answer_for_code (L2.constant_value {c = L2.unit_element}) = omega arith
answer_for_code (L2.constant_value {c = L2.boolean b}) = omega arith
answer_for_code (L2.constant_value {c = L2.integer z}) = omega arith
answer_for_code (L2.constant_value {c = L2.operator o}) = omega arith
answer_for_code L2.lambda_value = omega arith
answer_for_code (L2.operator_value v) = omega arith
