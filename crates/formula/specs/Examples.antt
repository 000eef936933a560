-- Lines, computed.
use Rattle.std.specs.Prelude.{◌≡◌, refl, Ok, Err, [], ◌∷◌}
use Rattle.decimal.specs.Decimal.{digits_within, decimal, spaced}
use Rattle.inference.specs.declared.Untyped.TheVariants.{NoType}
use Rattle.answers.specs.declared.Answer.TheVariants.{Integer}
use Rattle.formula.specs.Lines.{type_line, run_line}

-- `type 0 1 3` and `run 10 6 14 1`
type_of_P1 : type_line (Ok 1) (3 ∷ 0 ∷ []) ≡ 116 ∷ 121 ∷ 112 ∷ 101 ∷ 32 ∷ 48 ∷ 32 ∷ 49 ∷ 32 ∷ 51 ∷ 10 ∷ []
unfolding spaced decimal digits_within
type_of_P1 = refl

run_of_P1 : run_line (record { answer = Integer 6; steps = 14; bindings = 1 }) ≡ 114 ∷ 117 ∷ 110 ∷ 32 ∷ 49 ∷ 48 ∷ 32 ∷ 54 ∷ 32 ∷ 49 ∷ 52 ∷ 32 ∷ 49 ∷ 10 ∷ []
unfolding spaced decimal digits_within
run_of_P1 = refl

-- `type 6 0`: no words follow a refusal.
no_type_line : type_line (Err NoType) (3 ∷ []) ≡ 116 ∷ 121 ∷ 112 ∷ 101 ∷ 32 ∷ 54 ∷ 32 ∷ 48 ∷ 10 ∷ []
unfolding spaced decimal digits_within
no_type_line = refl
