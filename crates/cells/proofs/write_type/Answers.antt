-- `cells::write_type` meets its contract: the type is measured, and then written over as many words.
use Rattle.std.proofs.Common.{arith, length-take-le, ◌≡◌, ◌-◌, length, Some, None}
use Rattle.cells.specs.WritingLaws.{ready_at_first, all_written, none_written}
use Rattle.cells.proofs.write_type.Goals as goal

pub returns-in_err-left : goal.returns-in_err-left
returns-in_err-left c =
    let none : c.measure.result ≡ None = cc in
    let given : c.from_residual.result ≡ None = cc in
    rw given (none_written c.args.out.now (rw none at c.measure.ensures))

pub write-requires : goal.write-requires
write-requires c =
    let (unnumbered, inside) = c.requires in
    let out = c.args.out.now in
    let room = length-take-le (length out - c.in_ok-left.left) out (omega arith) in
    (ready_at_first unnumbered, inside, omega arith)

pub returns : goal.returns
returns c =
    let some : c.measure.result ≡ Some c.in_ok-left.left = cc in
    let measured = rw some at c.measure.ensures in
    all_written c.requires.0 c.args.out.now (omega (arith, measured.no_more)) measured c.write.ensures
