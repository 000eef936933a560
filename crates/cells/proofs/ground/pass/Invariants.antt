-- `cells::ground::pass` meets its contract. The loop's invariant: so many cells were marked, and if none, the first i are settled.
use Rattle.std.proofs.Common.{◌<◌}
use Rattle.cells.specs.Grounding.{Progress}
use Rattle.cells.proofs.ground.pass.Given as goal

abbrev pub invariant-loop-i : goal.invariant-loop-i
invariant-loop-i l = Progress (λ j. j < l.i) l.initial.cells l.cells l.new
