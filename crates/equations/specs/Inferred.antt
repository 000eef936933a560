-- Inference of a table's type by the textbook's unification of its equations.
use Rattle.std.specs.Prelude.{ℕ, Option, None, Some}
use Rattle.language.specs.Expression.{Exp}
use Rattle.language.specs.Ty.{Ty}
use Rattle.language.specs.Environment.{empty}
use Rattle.language.specs.Typing.{Has}
use Rattle.language.specs.Principal.{Principal}
use Rattle.language.specs.Unification.{Unified, solution, unsolvable, unify}
use Rattle.table.specs.Node.{Nodes}
use Rattle.table.specs.Walk.{climb_from}
use Rattle.table.specs.Scope.{first_named}
use Rattle.equations.specs.Equations.{node_var, equations_below}

abbrev pub root_type : Unified → Option Ty
root_type (solution s) = Some (s (node_var 0))
root_type unsolvable = None

-- To unfold `inferred` is to unfold all that it computes with.
unfoldable pub inferred : Nodes → ℕ → Option Ty
unfolding equations_below climb_from first_named unify
inferred nd n = root_type (unify (equations_below nd n))

-- What a right answer is.
abbrev pub RightType : Exp → Option Ty → Type 0
RightType e (Some τ) = Principal empty e τ
RightType e None = (τ : Ty) → ¬ Has empty e τ
