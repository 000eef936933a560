-- `cells::write::measure` meets its contract. The measure is the room. The loop's invariant: what the
-- current cell's type leaves of the room is what cell i's leaves of it.
use Rattle.cells.specs.MeasuringLaws.{MeasuresOn}
use Rattle.cells.proofs.write.+measure.Given as goal

abbrev pub decreases-measure : goal.decreases-measure
decreases-measure l = l.room

abbrev pub invariant-loop-room : goal.invariant-loop-room
invariant-loop-room l = MeasuresOn l.cells l.fn.i l.fn.room l.i l.room

abbrev pub decreases-loop-room : goal.decreases-loop-room
decreases-loop-room l = l.room
