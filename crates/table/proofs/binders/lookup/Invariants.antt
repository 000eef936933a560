-- `table::binders::lookup` meets its contract. The loop's invariant: the walk from the current node, through the words that are left, finds what
-- the whole walk finds.
use Rattle.table.specs.Lookup.{Walking}
use Rattle.table.proofs.binders.lookup.Given as goal

abbrev pub invariant-loop-i : goal.invariant-loop-i
invariant-loop-i l = Walking l.words l.x l.k l.current l.i

abbrev pub decreases-loop-i : goal.decreases-loop-i
decreases-loop-i l = l.i
