-- A table's formula has a type exactly if the table's equations have a solution, and a most general solution gives it its most general type.
use Rattle.std.specs.Prelude.{ℕ, ◌≡◌, ◌↔◌}
use Rattle.std.proofs.Common.{◌∙◌, ap}
use Rattle.language.specs.Ty.{Ty, Subst}
use Rattle.language.specs.Environment.{empty}
use Rattle.language.specs.Typing.{Has}
use Rattle.language.specs.Principal.{Principal}
use Rattle.language.specs.Unification.{Solves, MostGeneralSolution}
use Rattle.table.specs.Node.{Nodes}
use Rattle.table.specs.ExpressionOf.{exp_at}
use Rattle.table.specs.Tree.{ClosedTree}
use Rattle.equations.specs.Equations.{node_var, equations_below}
use Rattle.equations.proofs.SolutionsType.{solution_is_typing}
use Rattle.equations.proofs.TypingsSolve.{typing_is_solution}

module _ {nd : Nodes} {n : ℕ} (t : ClosedTree nd n) where
  -- With type τ at the root.
  pub typed_exactly_solved : {τ : Ty} → Has empty (exp_at nd n 0) τ ↔ ((s : Subst) × Solves s (equations_below nd n) × (s (node_var 0) ≡ τ))
  typed_exactly_solved = (typing_is_solution t, λ (s, h, e). rw e at (solution_is_typing t s h))

  pub typed_exactly_solvable : ((τ : Ty) × Has empty (exp_at nd n 0) τ) ↔ ((s : Subst) × Solves s (equations_below nd n))
  typed_exactly_solvable = (
    λ (τ, d). let (s, h, e) = typed_exactly_solved.0 d in (s, h),
    λ (s, h). (s (node_var 0), solution_is_typing t s h),
  )

  pub most_general_is_principal : {s : Subst} → MostGeneralSolution (equations_below nd n) s → Principal empty (exp_at nd n 0) (s (node_var 0))
  most_general_is_principal {s} g = record {
    typed = solution_is_typing t s g.solves;
    most_general = λ τ d.
        let (s', h, e) = typing_is_solution t d in
        let m = g.most_general s' h in
        record { by = m.after; is = ap (λ (r : Subst). r (node_var 0)) m.is ∙ e };
  }
