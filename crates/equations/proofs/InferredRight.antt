-- Inference by the textbook's unification answers with a most general type, or with none where the formula has no type.
use Rattle.language.specs.Unification.{Unified, solution, unsolvable, Right, unify}
use Rattle.language.proofs.UnificationCorrect.{unify_right}
use Rattle.std.specs.Prelude.{ℕ}
use Rattle.table.specs.Node.{Nodes}
use Rattle.table.specs.ExpressionOf.{exp_at}
use Rattle.table.specs.Tree.{ClosedTree}
use Rattle.equations.specs.Equations.{equations_below}
use Rattle.equations.specs.Inferred.{root_type, inferred, RightType}
use Rattle.equations.proofs.TypingsSolve.{typing_is_solution}
use Rattle.equations.proofs.TypedExactlySolvable.{most_general_is_principal}

pub inferred_right : {nd : Nodes} {n : ℕ} → ClosedTree nd n → RightType (exp_at nd n 0) (inferred nd n)
unfolding inferred
inferred_right {nd} {n} t = go (unify (equations_below nd n)) (unify_right (equations_below nd n))
  where
    go : (a : Unified) → Right (equations_below nd n) a → RightType (exp_at nd n 0) (root_type a)
    go (solution s) g = most_general_is_principal t g
    go unsolvable unsolved = λ τ d. let (s, h, e) = typing_is_solution t d in unsolved s h
