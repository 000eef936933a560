use Rattle.std.proofs.Common.{arith, refl, sym, ◌+◌, ◌≡◌}
use Rattle.acceptance.specs.SearchLoop.{search_starts, search_goes_on, search_finds, search_ends}
use Rattle.acceptance.specs.Parents.{times_start, times_next, times_grow, misplaced_if, placed_if}
use Rattle.table.specs.Node.{node_at}
use Rattle.acceptance.proofs.nodes.Nodes.parents.Goals as goal

pub loop-k-init : goal.loop-k-init
loop-k-init c = search_goes_on search_starts c.args.self.now.some refl

pub loop-p-init : goal.loop-p-init
loop-p-init c = (sym (times_start _ _), omega arith)

pub loop-p-preserved : goal.loop-p-preserved
loop-p-preserved c =
    let next = times_next (node_at c.args.self.now.words.now) c.loop-k.k c.loop-p.p in
    (omega arith, omega arith)

pub loop-k-preserved : goal.loop-k-preserved
loop-k-preserved c =
    let k = c.loop-k.k in
    let all : c.loop-p.p ≡ k = omega arith in
    let counted = rw all at c.loop-p.invariant.0 in
    search_goes_on c.loop-k.invariant c.loop-k-test.true (placed_if (node_at c.args.self.now.words.now) k (omega arith))

pub returns-then-times-gt1 : goal.returns-then-times-gt1
returns-then-times-gt1 c =
    let nd = node_at c.args.self.now.words.now in
    let k = c.loop-k.k in
    let p = c.loop-p.p in
    let next = times_next nd k p in
    let grown = times_grow nd k (p + 1) k (omega arith) in
    rw (search_finds c.loop-k.invariant c.loop-k-test.true (misplaced_if nd k (omega arith) (omega arith))) refl

pub returns-then-times-eq0 : goal.returns-then-times-eq0
returns-then-times-eq0 c =
    let all : c.loop-p.p ≡ c.loop-k.k = omega arith in
    let counted = rw all at c.loop-p.invariant.0 in
    rw (search_finds c.loop-k.invariant c.loop-k-test.true (misplaced_if _ _ (omega arith) (omega arith))) refl

pub returns-after-loop-k : goal.returns-after-loop-k
returns-after-loop-k c = rw (search_ends c.loop-k.invariant c.loop-k-test.false) refl
