-- `cells::ground::sweep` meets its contract. The loop's invariant: so many cells are still unmarked.
use Rattle.cells.specs.GroundLaws.{Sweeping}
use Rattle.cells.proofs.ground.sweep.Given as goal

abbrev pub invariant-loop-left : goal.invariant-loop-left
invariant-loop-left l = Sweeping l.initial.cells l.cells l.left

abbrev pub decreases-loop-left : goal.decreases-loop-left
decreases-loop-left l = l.left
