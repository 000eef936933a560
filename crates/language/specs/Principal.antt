-- Most general types (lecture notes, Definition 26).
use Rattle.language.specs.Expression.{Exp}
use Rattle.language.specs.Ty.{Ty, Instance}
use Rattle.language.specs.Environment.{Env}
use Rattle.language.specs.Typing.{Has}

-- τ is a most general type of e in Γ if e has it there and every type that e has there is an instance of it. A formula is typed in the
-- empty environment.
pub record Principal (Γ : Env Ty) (e : Exp) (τ : Ty) : Type 0 where
  pub typed : Has Γ e τ
  pub most_general : (τ' : Ty) → Has Γ e τ' → Instance τ τ'
