-- `formula::respond::type_line` meets its contract.
use Rattle.std.proofs.Common.{arith}
use Rattle.formula.specs.ProgramLaws.{type_fits}
use Rattle.formula.proofs.respond.type_line.Goals as goal

pub type_line-requires : goal.type_line-requires
type_line-requires c = omega (arith, type_fits c.infer-inferred.ensures)

pub returns : goal.returns
returns c = record { inferred = _; infers = c.infer-inferred.ensures; line = c.type_line.ensures }
