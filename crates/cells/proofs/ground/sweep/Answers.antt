use Rattle.std.proofs.Common.{arith}
use Rattle.cells.specs.GroundLaws.{sweep_on, sweep_starts, sweep_stuck, sweep_done}
use Rattle.cells.proofs.ground.sweep.Goals as goal

pub loop-left-init : goal.loop-left-init
loop-left-init c = let (unmarked, whole) = c.requires in sweep_starts _ whole unmarked

pub pass-new-requires : goal.pass-new-requires
pass-new-requires c = (c.loop-left.invariant.marking, omega arith)

pub returns-then-new-eq0 : goal.returns-then-new-eq0
returns-then-new-eq0 c =
    sweep_stuck _ c.requires.1 c.loop-left.invariant c.loop-left-test.true c.pass-new.ensures c.if-new-eq0.true

pub loop-left-preserved : goal.loop-left-preserved
loop-left-preserved c = sweep_on c.loop-left.invariant c.pass-new.ensures

pub returns : goal.returns
returns c = sweep_done _ c.requires.1 c.loop-left.invariant (omega arith)
