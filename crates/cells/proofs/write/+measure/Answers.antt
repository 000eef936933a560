use Rattle.std.proofs.Common.{◌≡◌, Some, None}
use Rattle.cells.specs.CellSteps.{not_arrow}
use Rattle.cells.specs.RootTypes.{root_is_leaf}
use Rattle.cells.specs.MeasuringLaws.{measured_none, measured_leaf, measured_stops, measures_right}
use Rattle.cells.proofs.write.+measure.Goals as goal

pub returns-then-room-eq0 : goal.returns-then-room-eq0
returns-then-room-eq0 t c = c.loop-room.invariant.goes_on (measured_none _ _ c.if-room-eq0.true)

pub returns-in_default : goal.returns-in_default
returns-in_default t c =
    let root = c.root-r.ensures in
    let inv = c.loop-room.invariant in
    let leaf = root_is_leaf root c.get.ensures inv.inside (not_arrow _ c.in_default.not-Arrow) in
    inv.goes_on (measured_leaf c.if-room-eq0.false root leaf)

pub returns-in_err-room : goal.returns-in_err-room
returns-in_err-room t c =
    let none : c.measure.result ≡ None = cc in
    let given : c.from_residual.result ≡ None = cc in
    rw given (c.loop-room.invariant.goes_on (measured_stops c.if-room-eq0.false c.root-r.ensures c.get.ensures c.in-Arrow.is (rw none at c.measure.ensures)))

pub loop-room-preserved : goal.loop-room-preserved
loop-room-preserved t c =
    let some : c.measure.result ≡ Some c.in_ok-room.room = cc in
    let first = rw some at c.measure.ensures in
    measures_right c.loop-room.invariant c.if-room-eq0.false c.requires.0 c.root-r.ensures c.get.ensures c.in-Arrow.is first
