-- `cells::write::variable` meets its contract: a variable keeps the number that it has, or gets the next one.
use Rattle.std.proofs.Common.{arith}
use Rattle.cells.specs.WritingLaws.{few_numbered, old_spelled, new_spelled}
use Rattle.cells.proofs.write.variable.Goals as goal

pub overflow_add-result : goal.overflow_add-result
overflow_add-result c =
    let ready = c.requires.0 in
    rw c.get_pair-p.ensures (omega (arith, few_numbered ready, ready.small c.args.r))

pub returns-then-number-ne0 : goal.returns-then-number-ne0
returns-then-number-ne0 c =
    let (ready, inside, free) = c.requires in
    let read = c.get_pair-p.ensures in
    rw read (old_spelled ready free (rw read at c.if-number-ne0.true))

pub overflow_add-next : goal.overflow_add-next
overflow_add-next c = omega (arith, few_numbered c.requires.0)

pub overflow_add-result-2 : goal.overflow_add-result-2
overflow_add-result-2 c = omega (arith, few_numbered c.requires.0)

pub returns : goal.returns
returns c =
    let (ready, inside, free) = c.requires in
    new_spelled ready free inside (rw c.get_pair-p.ensures at c.if-number-ne0.false) c.put_pair.ensures
