-- `acceptance::nodes::Nodes::fields` meets its contract. Invariants of both loops: what is left to search is the whole answer, outside among the nodes
-- and inside among the three fields of a node.
use Rattle.std.proofs.Common.{not}
use Rattle.acceptance.specs.SearchLoop.{Searching}
use Rattle.acceptance.specs.FieldRules.{misfits}
use Rattle.acceptance.specs.Refusals.{fits}
use Rattle.acceptance.proofs.nodes.Nodes.fields.Given as goal

abbrev pub invariant-loop-f : goal.invariant-loop-f
invariant-loop-f l = Searching (misfits l.self.words.now l.self.count l.k) 3 l.f

abbrev pub invariant-loop-k : goal.invariant-loop-k
invariant-loop-k l =
    let n = l.self.count in
    Searching (λ i. not (fits l.self.words.now n i)) n l.k
