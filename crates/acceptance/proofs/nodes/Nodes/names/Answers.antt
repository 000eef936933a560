use Rattle.std.proofs.Common.{arith, refl}
use Rattle.acceptance.specs.SearchLoop.{search_goes_on, search_finds, search_ends}
use Rattle.table.specs.Lookup.{walk_starts, walk_goes_on, walk_finds, walk_ends}
use Rattle.acceptance.specs.Unbound.{name_unbound, no_name_unbound}
use Rattle.acceptance.proofs.nodes.Nodes.names.Goals as goal

pub loop-k-preserved-then-w-ne4 : goal.loop-k-preserved-then-w-ne4
loop-k-preserved-then-w-ne4 c =
    search_goes_on c.loop-k.invariant c.loop-k-test.true (no_name_unbound c.args.self.now.words.now c.loop-k.k c.node-w.ensures c.if-w-ne4.true)

pub loop-i-init : goal.loop-i-init
loop-i-init c = walk_starts

pub loop-i-preserved : goal.loop-i-preserved
loop-i-preserved c = walk_goes_on c.loop-i.invariant (omega arith) c.walk_at.ensures c.in-Some.is

pub loop-k-preserved : goal.loop-k-preserved
loop-k-preserved c =
    let found = walk_finds c.loop-i.invariant (omega arith) c.walk_at.ensures c.in_default.is in
    search_goes_on c.loop-k.invariant c.loop-k-test.true (name_unbound c.args.self.now.words.now c.loop-k.k c.node-w.ensures c.if-w-ne4.false found)

pub returns-then-i-eq0 : goal.returns-then-i-eq0
returns-then-i-eq0 c =
    let found = walk_ends c.loop-i.invariant (omega arith) in
    let lost = name_unbound c.args.self.now.words.now c.loop-k.k c.node-w.ensures c.if-w-ne4.false found in
    rw (search_finds c.loop-k.invariant c.loop-k-test.true lost) refl

pub returns-after-loop-k : goal.returns-after-loop-k
returns-after-loop-k c = rw (search_ends c.loop-k.invariant c.loop-k-test.false) refl
