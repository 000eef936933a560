-- `cells::solve::solve` meets its contract. The loop's invariant: what is demanded now is what was demanded at first.
use Rattle.cells.specs.SolvingLaws.{Running, work}
use Rattle.cells.proofs.solve.solve.Given as goal

abbrev pub invariant-loop-left : goal.invariant-loop-left
invariant-loop-left l = Running l.initial.cells l.i l.j l.pending l.cells l.a l.b l.left

abbrev pub decreases-loop-left : goal.decreases-loop-left
decreases-loop-left l = work l.cells l.left
