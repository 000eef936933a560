-- The examples of the lecture notes on small steps (sections 3, 5 and 6).
use Rattle.std.specs.Prelude.{ℕ, zero, suc, ◌≡◌, refl, true}
use Rattle.std.proofs.Common.{subst}
use Rattle.language.specs.Expression.{plus, minus, times, divide, equal, Exp, constant, operator, name, app, if_then_else, let_in, rec, constant_value, lambda_value}
use Rattle.language.specs.Notation.{num, truth, op, x, λx, to_itself}
use Rattle.language.specs.Integers.{division_by_zero, meaning}
use Rattle.language.specs.Substitution.{sub}
use Rattle.language.specs.SmallStep.{next, raised, Step, OP, BETA_V, APP_LEFT, APP_RIGHT, APP_RIGHT_EXN, LET_EXEC, Stuck, Steps, done, then, Diverges}
use Rattle.language.specs.Move.{Move, steps, value, stuck, as_function, move}
use Rattle.language.proofs.MoveDecides.{Decided, move_decides, move_is_stuck}
use Rattle.language.proofs.Determinism.{steps_are_deterministic}

-- ---- Computing

abbrev onward : Exp → (Exp → Exp) → Move → Exp
onward e rest (steps (next e')) = rest e'
onward e rest (steps (raised ep)) = e
onward e rest value = e
onward e rest stuck = e

-- The expression that is reached by n small steps, or sooner where none leads on.
after : ℕ → Exp → Exp
after zero e = e
after (suc n) e = onward e (after n) (move e)

after_is_reached : (n : ℕ) (e : Exp) → Steps e (after n e)
unfolding after
after_is_reached zero e = done
after_is_reached (suc n) e = go (after_is_reached n) (move e) (move_decides e)
  where
    go : ((e' : Exp) → Steps e' (after n e')) → (m : Move) → Decided e m → Steps e (onward e (after n) m)
    go rest (steps (next e')) d = then d (rest e')
    go rest (steps (raised ep)) d = done
    go rest value d = done
    go rest stuck d = done

-- ---- The examples

-- Beispiel 4: (λx. + x) 1 3 →* 4. The notes print + 3 1 for the expression in between; the rules give + 1 3.
example_4 : Steps (app (app (λx (app (constant (operator plus)) x)) (num 1)) (num 3)) (num 4)
unfolding sub meaning
example_4 = then (APP_LEFT (BETA_V constant_value)) (then {e = op plus (num 1) (num 3)} (OP refl) done)

-- Beispiel 5: let square = λx. * x x in square (square 5)
square_of_square : Exp
square_of_square = let_in 1 (λx (op times x x)) (app (name 1) (app (name 1) (num 5)))

example_5 : Steps square_of_square (num 625)
unfolding square_of_square sub meaning
example_5 =
    then (LET_EXEC lambda_value) (then (APP_RIGHT lambda_value (BETA_V constant_value)) (then (APP_RIGHT lambda_value (OP refl)) (
    then (BETA_V constant_value) (then (OP refl) done))))

example_5_computed : after 5 square_of_square ≡ num 625
unfolding after square_of_square move as_function sub meaning
example_5_computed = refl

-- Beispiel 8: (λx. x x) (λx. x x)
self_application : Exp
self_application = app to_itself to_itself

steps_to_itself : Step self_application (next self_application)
unfolding self_application sub
steps_to_itself = BETA_V lambda_value

circle_goes_on : {e e' : Exp} → Step e (next e) → Steps e e' → Step e' (next e')
circle_goes_on d done = d
circle_goes_on {e} d (then {e' = e₁} d₁ rest) =
    let same : e ≡ e₁ = cc (steps_are_deterministic d d₁) in
    circle_goes_on (subst (λ (e₀ : Exp). Step e₀ (next e₀)) same d) rest

example_8 : Diverges self_application
example_8 = record { goes_on = λ e run. (e, circle_goes_on steps_to_itself run) }

-- Beispiel 9: 1 true; if 1 then 2 else 3; 1 2
example_9 : Stuck (app (num 1) (truth true)) × Stuck (if_then_else (num 1) (num 2) (num 3)) × Stuck (app (num 1) (num 2))
unfolding move as_function
example_9 = (move_is_stuck _ refl, move_is_stuck _ refl, move_is_stuck _ refl)

-- Beispiel 12: (λx. (λx. x + x) (x + 1)) 5 → (λx. x + x) (5 + 1); the inner x is another one.
example_12 : Step (app (λx (app (λx (op plus x x)) (op plus x (num 1)))) (num 5)) (next (app (λx (op plus x x)) (op plus (num 5) (num 1))))
unfolding sub
example_12 = BETA_V constant_value

-- Beispiel 17: let rec fact x = if x = 0 then 1 else x * fact (x - 1) in fact 1
fact_of_one : Exp
fact_of_one = let_in 1 (rec 1 (λx (if_then_else (op equal x (num 0)) (num 1) (op times x (app (name 1) (op minus x (num 1))))))) (app (name 1) (num 1))

example_17_computed : after 11 fact_of_one ≡ num 1
unfolding after fact_of_one move as_function sub meaning
example_17_computed = refl

example_17 : Steps fact_of_one (num 1)
example_17 = rw example_17_computed at (after_is_reached 11 fact_of_one)

-- Section 3.4: / 1 0 raises division by zero, and 1 (/ 1 0) raises it too, before the application can be stuck.
one_by_zero : Step (op divide (num 1) (num 0)) (raised division_by_zero)
unfolding meaning
one_by_zero = OP refl

raised_outwards : Step (app (num 1) (op divide (num 1) (num 0))) (raised division_by_zero)
raised_outwards = APP_RIGHT_EXN constant_value one_by_zero
