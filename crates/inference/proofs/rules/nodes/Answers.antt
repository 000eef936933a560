use Rattle.std.proofs.Common.{arith, ◌≡◌}
use Rattle.inference.specs.TableLaws.{no_node_yet, next_ready, node_solved_too, node_fails}
use Rattle.inference.proofs.rules.nodes.Goals as goal

pub loop-k-init : goal.loop-k-init
loop-k-init c = no_node_yet c.requires

pub node-requires : goal.node-requires
node-requires c = next_ready c.requires c.loop-k-test.true c.loop-k.invariant

pub loop-k-preserved : goal.loop-k-preserved
loop-k-preserved c = node_solved_too c.requires c.loop-k-test.true c.loop-k.invariant c.in_ok-node.ensures

pub returns-in_err-node : goal.returns-in_err-node
returns-in_err-node c = node_fails c.requires c.loop-k-test.true c.loop-k.invariant _ c.from_residual.ensures.0 c.in_err-node.ensures

pub returns : goal.returns
returns c =
    let all : c.loop-k.k ≡ c.args.n = omega (arith, c.loop-k-test.false, c.loop-k.auto.k-end) in
    rw all at c.loop-k.invariant
