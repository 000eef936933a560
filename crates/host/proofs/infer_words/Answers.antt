-- `host::infer_words` meets its contract: it lends as many words for the type as `out` has, and they are zero.
use Rattle.std.proofs.Common.{sym}
use Rattle.host.specs.TypeBytes.{room_lent, out_room, infers_on}
use Rattle.host.proofs.infer_words.Goals as goal

pub slice_bounds-infer_on-end-2 : goal.slice_bounds-infer_on-end-2
slice_bounds-infer_on-end-2 c =
    sym (room_lent c.args.out.now c.min-room.ensures)

pub infer_on-requires : goal.infer_on-requires
infer_on-requires c =
    out_room c.args.out.now c.min-room.ensures

pub returns : goal.returns
returns c =
    infers_on c.args.out.now c.min-room.ensures c.infer_on.ensures
