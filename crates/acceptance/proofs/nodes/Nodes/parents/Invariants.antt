-- `acceptance::nodes::Nodes::parents` meets its contract. Outer invariant: what is left to search is the whole answer. Inner invariant: `times` counts
-- the fields of the nodes passed, and is at most 1, since a second one ends the search.
use Rattle.std.proofs.Common.{◌≡◌, ◌≤◌}
use Rattle.acceptance.specs.SearchLoop.{Searching}
use Rattle.acceptance.specs.Counting.{misplaced_below}
use Rattle.acceptance.specs.Refusals.{times_below}
use Rattle.table.specs.Node.{node_at}
use Rattle.acceptance.proofs.nodes.Nodes.parents.Given as goal

abbrev pub invariant-loop-p : goal.invariant-loop-p
invariant-loop-p l = (l.times ≡ times_below (node_at l.self.words.now) l.p l.k) × (l.times ≤ 1)

abbrev pub invariant-loop-k : goal.invariant-loop-k
invariant-loop-k l = Searching (misplaced_below (node_at l.self.words.now)) l.self.count l.k
