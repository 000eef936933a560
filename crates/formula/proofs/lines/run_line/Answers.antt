-- `formula::lines::run_line` meets its contract.
use Rattle.formula.specs.LineLaws.{line_goes_on}
use Rattle.formula.specs.Lines.{run_text}
use Rattle.decimal.specs.TextLaws.{puts_within, puts_within_then}
use Rattle.formula.proofs.lines.run_line.Goals as goal

pub returns : goal.returns
returns c = puts_within_then (line_goes_on run_text _ _ c.run_head.ensures c.numbers.ensures) (puts_within c.bytes.ensures)
