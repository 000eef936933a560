-- `host::tell` meets its contract.
use Rattle.std.proofs.Common.{arith, length-take-le, refl, sym}
use Rattle.host.specs.TypeBytes.{type_told}
use Rattle.host.proofs.tell.Goals as goal

pub slice_bounds-write_bytes-end : goal.slice_bounds-write_bytes-end
slice_bounds-write_bytes-end c =
    let room = rw c.in-Ok.is at c.requires in
    sym (length-take-le _ _ room.0)

pub overflow_cast-count : goal.overflow_cast-count
overflow_cast-count c =
    let room = rw c.in-Ok.is at c.requires in
    omega arith

pub returns-in-Ok : goal.returns-in-Ok
returns-in-Ok c =
    let is = c.in-Ok.is in
    rw is (type_told c.args.types.now (rw is at c.requires) c.pack.ensures c.write_bytes.ensures)

pub returns-in-Err : goal.returns-in-Err
returns-in-Err c = rw c.in-Err.is (record { number = rw (c.code.ensures, c.place.ensures) at c.pack-in-Err.ensures; out_is_after = refl })
