-- Expressions as the lecture notes write them, for the examples.
use Rattle.std.specs.Prelude.{ℕ, Bool, pos}
use Rattle.language.specs.Expression.{Operator, boolean, integer, operator, Exp, constant, name, app, lambda}

abbrev pub num : ℕ → Exp
num n = constant (integer (pos n))

abbrev pub truth : Bool → Exp
truth b = constant (boolean b)

-- op e₁ e₂
abbrev pub op : Operator → Exp → Exp → Exp
op o e₁ e₂ = app (app (constant (operator o)) e₁) e₂

abbrev pub x : Exp
x = name 0

abbrev pub λx : Exp → Exp
λx = lambda 0

-- λx. x x
abbrev pub to_itself : Exp
to_itself = λx (app x x)
