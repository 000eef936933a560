-- What demand 3 says of runs with fuel and room.
use Rattle.std.specs.Prelude.{ℕ, ◌≡◌, ◌⊎◌}
use Rattle.language.specs.Expression.{Constant, Exp, constant, name, app, if_then_else, lambda, let_in, rec, unit_element, boolean, integer, operator}
use Rattle.semantics.specs.Limits.{Limit, Room, AtLeast}
use Rattle.semantics.specs.Answer.{DefinedAnswer, integer_answer, boolean_answer, unit_answer, function_answer, limit_answer, RunAnswer}

-- A run names what ran out: 17, 18 or 19.
pub record NamesLimit (a : DefinedAnswer) : Type 0 where
  pub limit : Limit
  pub names : a ≡ limit_answer limit

-- The answer for a value of L2: 10, 11, 12, or 13 for a function.
abbrev pub constant_answer : Constant → DefinedAnswer
constant_answer unit_element = unit_answer
constant_answer (boolean b) = boolean_answer b
constant_answer (integer n) = integer_answer n
constant_answer (operator o) = function_answer

abbrev pub answer_for : Exp → DefinedAnswer
answer_for (constant c) = constant_answer c
answer_for (name x) = function_answer
answer_for (app e₁ e₂) = function_answer
answer_for (if_then_else e₀ e₁ e₂) = function_answer
answer_for (lambda x e) = function_answer
answer_for (let_in x e₁ e₂) = function_answer
answer_for (rec x e) = function_answer

-- There is a least room with which the runs give that answer: all that are at least as large, in each of the three numbers, give it with the
-- same counts; every one that gives it is at least as large; and all others name what ran out.
pub record Reached (ran : Room → RunAnswer) (a : DefinedAnswer) : Type 0 where
  pub room : Room
  pub steps : ℕ
  pub bindings : ℕ
  pub greater : (r : Room) → AtLeast room r → ran r ≡ record { answer = a; steps = steps; bindings = bindings }
  pub least : (r : Room) → (ran r).answer ≡ a → AtLeast room r
  pub others : (r : Room) → (ran r ≡ record { answer = a; steps = steps; bindings = bindings }) ⊎ NamesLimit (ran r).answer
