-- `formula::lines::type_head` meets its contract.
use Rattle.decimal.specs.TextLaws.{puts_within, puts_within_then}
use Rattle.formula.proofs.lines.type_head.Goals as goal

pub returns : goal.returns
returns c =
    let numbers = rw c.code_and_place.ensures at c.numbers.ensures in
    puts_within_then (puts_within c.bytes.ensures) numbers
