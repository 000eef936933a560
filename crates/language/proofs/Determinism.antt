-- Small steps are deterministic, and values have none (lecture notes, Lemmas 1 and 3, Satz 1 and 2).
use Rattle.std.specs.Prelude.{ℕ, ◌≡◌}
use Rattle.std.proofs.Common.{arith}
use Rattle.language.specs.Expression.{Exp, Value}
use Rattle.language.specs.SmallStep.{Result, Step, NoStep}
use Rattle.language.proofs.MoveDecides.{value_is_move, step_is_move}

pub values_do_not_step : {v : Exp} → Value v → NoStep v
values_do_not_step v =
    record { none = λ r d. let z : ◌≡◌ {A = ℕ} 0 1 = cc (value_is_move v, step_is_move d) in omega arith }

pub steps_are_deterministic : {e : Exp} {r r' : Result} → Step e r → Step e r' → r ≡ r'
steps_are_deterministic d d' = cc (step_is_move d, step_is_move d')
