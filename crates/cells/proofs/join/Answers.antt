-- `cells::join` meets its contract.
use Rattle.std.proofs.Common.{arith}
use Rattle.cells.specs.Outcomes.{outcome_for}
use Rattle.cells.proofs.join.Goals as goal

pub returns : goal.returns
returns c = outcome_for (λ ρ h. (λ e. (e, record { at = λ k below. absurd (omega arith) }), λ (e, p). e)) c.solve.ensures
