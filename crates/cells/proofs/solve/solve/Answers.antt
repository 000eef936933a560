use Rattle.std.proofs.Common.{arith, ◌≡◌, Ok, Some, None}
use Rattle.cells.specs.SolvingLaws.{newest_inside, room_for_pair, few_pairs, parts_first, parts_less}
use Rattle.cells.proofs.solve.solve.Goals as goal

pub get_pair-next-requires : goal.get_pair-next-requires
get_pair-next-requires c =
    let told : c.meet.result ≡ Ok None = cc in
    newest_inside c.loop-left.invariant c.meet.ensures told c.if-left-eq0.false

pub put_pair-requires : goal.put_pair-requires
put_pair-requires c =
    let told : c.meet.result ≡ Ok (Some c.in-Some.parts) = cc in
    room_for_pair c.loop-left.invariant c.meet.ensures told

pub overflow_add-left : goal.overflow_add-left
overflow_add-left c =
    let told : c.meet.result ≡ Ok (Some c.in-Some.parts) = cc in
    omega (arith, few_pairs c.loop-left.invariant c.meet.ensures told)

pub loop-left-smaller : goal.loop-left-smaller
loop-left-smaller c =
    let told : c.meet.result ≡ Ok (Some c.in-Some.parts) = cc in
    parts_less c.loop-left.invariant c.meet.ensures told c.put_pair.ensures

pub loop-left-preserved : goal.loop-left-preserved
loop-left-preserved c =
    let told : c.meet.result ≡ Ok (Some c.in-Some.parts) = cc in
    parts_first c.loop-left.invariant c.meet.ensures told c.put_pair.ensures
