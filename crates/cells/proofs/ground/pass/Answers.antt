use Rattle.std.proofs.Common.{arith, ◌≡◌}
use Rattle.cells.specs.GroundLaws.{progress_bounded, pass_on}
use Rattle.cells.proofs.ground.pass.Goals as goal

pub overflow_add-new : goal.overflow_add-new
overflow_add-new c =
    omega (arith, progress_bounded (pass_on c.loop-i.invariant c.visit-up.ensures c.visit-down.ensures))

pub overflow_add-new-in-loop-i : goal.overflow_add-new-in-loop-i
overflow_add-new-in-loop-i c =
    omega (arith, progress_bounded (pass_on c.loop-i.invariant c.visit-up.ensures c.visit-down.ensures))

pub loop-i-preserved : goal.loop-i-preserved
loop-i-preserved c = pass_on c.loop-i.invariant c.visit-up.ensures c.visit-down.ensures

pub returns : goal.returns
returns c =
    let all : c.loop-i.i ≡ c.args.n = omega (arith, c.loop-i-test.false, c.loop-i.auto.i-end) in
    rw all at c.loop-i.invariant
