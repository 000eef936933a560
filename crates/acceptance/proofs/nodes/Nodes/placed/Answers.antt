use Rattle.std.proofs.Common.{ap, arith, sym, ◌+◌, ◌∙◌}
use Rattle.table.specs.Node.{node_at}
use Rattle.acceptance.specs.Placed.{all_placed, parents_so_far}
use Rattle.acceptance.proofs.nodes.Nodes.placed.Goals as goal

pub loop-k-init : goal.loop-k-init
loop-k-init c = λ j low high. absurd (omega arith)

pub loop-k-preserved : goal.loop-k-preserved
loop-k-preserved c = parents_so_far (node_at c.args.self.now.words.now) c.loop-k.invariant (c.has_parent.ensures c.if-not-has_parent.false)

pub returns : goal.returns
returns c =
    let as_many = ap (λ m. m + 1) (sym c.children.ensures.is) ∙ c.if-children-self.false in
    λ e. all_placed (node_at c.args.self.now.words.now) as_many (λ j low high. c.loop-k.invariant j low (omega arith))
