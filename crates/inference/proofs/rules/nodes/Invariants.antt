-- `inference::rules::nodes` meets its contract. The loop's invariant: the equations of the nodes before k are solved.
use Rattle.std.proofs.Common.{Ok}
use Rattle.cells.specs.Interface.{Outcome}
use Rattle.inference.specs.TableCells.{NodesSolved}
use Rattle.inference.proofs.rules.nodes.Given as goal

abbrev pub invariant-loop-k : goal.invariant-loop-k
invariant-loop-k l = Outcome l.initial.cells l.cells (NodesSolved l.words l.k) (Ok tt)
