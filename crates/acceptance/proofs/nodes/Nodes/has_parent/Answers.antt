-- `acceptance::nodes::Nodes::has_parent` meets its contract: one node that holds k is enough.
use Rattle.std.proofs.Common.{arith, ◌-◌}
use Rattle.table.specs.Node.{node_at}
use Rattle.acceptance.specs.Placed.{parent_found}
use Rattle.acceptance.proofs.nodes.Nodes.has_parent.Goals as goal

pub returns-then-times_at-gt0 : goal.returns-then-times_at-gt0
returns-then-times_at-gt0 c = λ e. parent_found (node_at c.args.self.now.words.now) c.args.k (c.loop-p.p - 1) (omega arith) (omega arith)
