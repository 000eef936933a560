-- `formula::lines::type_line` meets its contract.
use Rattle.formula.specs.LineLaws.{type_line_written}
use Rattle.formula.proofs.lines.type_line.Goals as goal

pub returns : goal.returns
returns c =
    let words = rw c.words_shown.ensures at c.numbers.ensures in
    type_line_written c.args.inferred c.args.out.now c.requires.0 c.requires.1 c.type_head.ensures words c.bytes.ensures
