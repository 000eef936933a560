-- What is proved of the equations of a table, in one place.
use Rattle.std.specs.Prelude.{ℕ, ◌≡◌, ◌↔◌}
use Rattle.language.specs.Ty.{Ty, Subst}
use Rattle.language.specs.Environment.{empty}
use Rattle.language.specs.Typing.{Has}
use Rattle.language.specs.Principal.{Principal}
use Rattle.language.specs.Unification.{Solves, MostGeneralSolution}
use Rattle.table.specs.Node.{Nodes}
use Rattle.table.specs.ExpressionOf.{exp_at}
use Rattle.table.specs.Tree.{ClosedTree}
use Rattle.equations.specs.Equations.{node_var, equations_below}
use Rattle.equations.proofs.TypedExactlySolvable as TypedExactlySolvable
use Rattle.equations.proofs.InferredRight as InferredRight
use Rattle.equations.specs.Inferred.{inferred, RightType}

module _ {nd : Nodes} {n : ℕ} (t : ClosedTree nd n) where
  -- The formula has type τ exactly if the equations of all nodes have a solution with τ at the root.
  typed_exactly_solved : {τ : Ty} → Has empty (exp_at nd n 0) τ ↔ ((s : Subst) × Solves s (equations_below nd n) × (s (node_var 0) ≡ τ))
  typed_exactly_solved = TypedExactlySolvable.typed_exactly_solved t

  -- So it has a type exactly if they have a solution.
  typed_exactly_solvable : ((τ : Ty) × Has empty (exp_at nd n 0) τ) ↔ ((s : Subst) × Solves s (equations_below nd n))
  typed_exactly_solvable = TypedExactlySolvable.typed_exactly_solvable t

  -- A most general solution gives the most general type at the root.
  most_general_is_principal : {s : Subst} → MostGeneralSolution (equations_below nd n) s → Principal empty (exp_at nd n 0) (s (node_var 0))
  most_general_is_principal = TypedExactlySolvable.most_general_is_principal t

  -- Inference by the textbook's unification answers with a most general type, or with none where the formula has no type.
  inferred_right : RightType (exp_at nd n 0) (inferred nd n)
  inferred_right = InferredRight.inferred_right t
