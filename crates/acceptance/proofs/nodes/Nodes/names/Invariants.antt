-- `acceptance::nodes::Nodes::names` meets its contract. Outer invariant: what is left to search is the whole answer. Inner invariant: the walk from
-- the current node, through the words that are left, finds what the whole walk from the name finds.
use Rattle.acceptance.specs.SearchLoop.{Searching}
use Rattle.table.specs.Lookup.{Walking}
use Rattle.acceptance.specs.Refusals.{unbound}
use Rattle.table.specs.Node.{node_at}
use Rattle.acceptance.proofs.nodes.Nodes.names.Given as goal

abbrev pub invariant-loop-i : goal.invariant-loop-i
invariant-loop-i l = Walking l.self.words.now l.w.a l.k l.current l.i

abbrev pub decreases-loop-i : goal.decreases-loop-i
decreases-loop-i l = l.i

abbrev pub invariant-loop-k : goal.invariant-loop-k
invariant-loop-k l = Searching (unbound (node_at l.self.words.now)) l.self.count l.k
