-- `cells::write::write` meets its contract. The measure is how many words remain to be written. The loop's invariant: to write
-- the current cell's type next is to write cell i's.
use Rattle.cells.specs.WritingLaws.{WritesOn}
use Rattle.cells.proofs.write.+write.Given as goal

abbrev pub decreases-write : goal.decreases-write
decreases-write l = l.rest.left

abbrev pub invariant-loop-rest : goal.invariant-loop-rest
invariant-loop-rest l = WritesOn l.fn.cells l.fn.i l.fn.out l.fn.rest l.cells l.i l.out l.rest

abbrev pub decreases-loop-rest : goal.decreases-loop-rest
decreases-loop-rest l = l.rest.left
