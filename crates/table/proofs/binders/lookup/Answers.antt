use Rattle.std.proofs.Common.{sym}
use Rattle.table.specs.Lookup.{walk_starts, walk_goes_on, walk_finds, walk_ends}
use Rattle.table.proofs.binders.lookup.Goals as goal

pub loop-i-init : goal.loop-i-init
loop-i-init c = walk_starts

pub loop-i-preserved : goal.loop-i-preserved
loop-i-preserved c = walk_goes_on c.loop-i.invariant c.loop-i-test.true c.walk_at.ensures c.in-Some.is

pub returns-in_default : goal.returns-in_default
returns-in_default c = sym (walk_finds c.loop-i.invariant c.loop-i-test.true c.walk_at.ensures c.in_default.is)

pub returns : goal.returns
returns c = sym (walk_ends c.loop-i.invariant c.loop-i-test.false)
