-- `acceptance::nodes::Nodes::children` meets its contract. The loop's invariant: `count` is what the nodes passed have.
use Rattle.std.proofs.Common.{◌*◌, ◌≡◌, ◌≤◌}
use Rattle.table.specs.Node.{node_at}
use Rattle.acceptance.specs.Counting.{children_below}
use Rattle.acceptance.proofs.nodes.Nodes.children.Given as goal

abbrev pub invariant-loop-p : goal.invariant-loop-p
invariant-loop-p l = (l.count ≡ children_below (node_at l.self.words.now) l.p) × (l.count ≤ 3 * l.p)
