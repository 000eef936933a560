-- `formula::respond::respond` meets its contract.
use Rattle.formula.specs.ProgramLaws.{responds}
use Rattle.formula.proofs.respond.respond.Goals as goal

pub returns : goal.returns
returns c = responds c.end.ensures.leads c.lines_for.ensures
