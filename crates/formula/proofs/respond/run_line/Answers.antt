-- `formula::respond::run_line` meets its contract.
use Rattle.formula.proofs.respond.run_line.Goals as goal

pub returns : goal.returns
returns c = record { ran = _; bindings = _; frames = _; runs = c.run-ran.ensures; line = c.run_line.ensures }
