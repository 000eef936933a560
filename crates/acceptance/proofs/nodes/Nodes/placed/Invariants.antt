-- `acceptance::nodes::Nodes::placed` meets its contract. The loop's invariant: each node before k but 0 is a child of one below it.
use Rattle.std.proofs.Common.{ℕ, ◌<◌, ◌≤◌}
use Rattle.table.specs.Node.{node_at}
use Rattle.acceptance.specs.Refusals.{times_below}
use Rattle.acceptance.proofs.nodes.Nodes.placed.Given as goal

abbrev pub invariant-loop-k : goal.invariant-loop-k
invariant-loop-k l = (j : ℕ) → 0 < j → j < l.k → 1 ≤ times_below (node_at l.self.words.now) j j
