-- `formula::respond::two_lines` meets its contract.
use Rattle.formula.specs.ProgramLaws.{two_lines_fit}
use Rattle.formula.proofs.respond.two_lines.Goals as goal

pub returns : goal.returns
returns c = two_lines_fit c.requires c.type_line.ensures c.run_line.ensures
