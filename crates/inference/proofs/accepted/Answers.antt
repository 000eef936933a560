-- `inference::accepted` meets its contract.
use Rattle.std.proofs.Common.{arith, refl, sym}
use Rattle.inference.specs.Inference.{work_short}
use Rattle.inference.specs.InferCall.{room_for_work, answered}
use Rattle.inference.proofs.accepted.Goals as goal

pub returns-then-work-size : goal.returns-then-work-size
returns-then-work-size c = work_short c.requires (omega (arith, c.if-work-size.true)) refl

pub slice_bounds-with_work-end-2 : goal.slice_bounds-with_work-end-2
slice_bounds-with_work-end-2 c =
    sym (room_for_work c.requires c.args.work.now c.if-work-size.false).whole

pub with_work-requires : goal.with_work-requires
with_work-requires c =
    room_for_work c.requires c.args.work.now c.if-work-size.false

pub returns : goal.returns
returns c =
    let ensured = c.with_work.ensures in
    answered c.requires c.args.work.now c.if-work-size.false ensured.answered ensured.zeroed
