-- `formula::lines::run_head` meets its contract.
use Rattle.formula.specs.LineLaws.{run_numbers}
use Rattle.formula.proofs.lines.run_head.Goals as goal

pub returns : goal.returns
returns c =
    let code = rw c.code.ensures at c.numbers.ensures in
    let payload = rw c.payload.ensures at c.integer.ensures in
    run_numbers c.args.answer c.bytes.ensures code c.bytes-2.ensures payload
