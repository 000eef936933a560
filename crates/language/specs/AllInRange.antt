-- Which expressions compute with integers in range only.
use Rattle.std.specs.Prelude.{◌≡◌, true}
use Rattle.language.specs.Expression.{Constant, unit_element, boolean, integer, operator, Exp, constant, name, app, if_then_else, lambda, let_in, rec}
use Rattle.language.specs.Integers.{in_range}

abbrev pub ConstantInRange : Constant → Type 0
ConstantInRange unit_element = Unit {0}
ConstantInRange (boolean b) = Unit {0}
ConstantInRange (integer n) = in_range n ≡ true
ConstantInRange (operator o) = Unit {0}

-- Every integer that stands in the expression is in range.
abbrev pub AllInRange : Exp → Type 0
AllInRange (constant c) = ConstantInRange c
AllInRange (name x) = Unit {0}
AllInRange (app e₁ e₂) = AllInRange e₁ × AllInRange e₂
AllInRange (if_then_else e₀ e₁ e₂) = AllInRange e₀ × AllInRange e₁ × AllInRange e₂
AllInRange (lambda x e) = AllInRange e
AllInRange (let_in x e₁ e₂) = AllInRange e₁ × AllInRange e₂
AllInRange (rec x e) = AllInRange e
