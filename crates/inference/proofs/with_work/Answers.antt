-- `inference::with_work` meets its contract: the words of the cells are lent, and then all are cleared.
use Rattle.std.proofs.Common.{sym}
use Rattle.inference.specs.InferCall.{room_for_cells, work_zeroed}
use Rattle.inference.proofs.with_work.Goals as goal

pub slice_bounds-principal-end-2 : goal.slice_bounds-principal-end-2
slice_bounds-principal-end-2 c = sym (room_for_cells c.requires).whole

pub principal-inferred-requires : goal.principal-inferred-requires
principal-inferred-requires c = room_for_cells c.requires

pub returns : goal.returns
returns c =
    let called = c.principal-inferred in
    record { answered = called.ensures; zeroed = work_zeroed c.requires called.new.cells called.auto.cells c.clear.ensures }
