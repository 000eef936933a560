-- `cells::ground::unmark` meets its contract. The loop's invariant: nothing stands beside the first i cells.
use Rattle.cells.specs.Grounding.{UnmarkedBelow}
use Rattle.cells.proofs.ground.unmark.Given as goal

abbrev pub invariant-loop-i : goal.invariant-loop-i
invariant-loop-i l = UnmarkedBelow l.initial.cells l.cells l.i
