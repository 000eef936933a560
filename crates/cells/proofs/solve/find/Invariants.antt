-- `cells::solve::find` meets its contract. The loop's invariant: the way from the cell has been shortened as far as the current one.
use Rattle.cells.specs.Solving.{Shortened}
use Rattle.cells.proofs.solve.find.Given as goal

abbrev pub invariant-loop-next : goal.invariant-loop-next
invariant-loop-next l = Shortened l.initial.cells l.cells l.i l.at

abbrev pub decreases-loop-next : goal.decreases-loop-next
decreases-loop-next l = l.at
