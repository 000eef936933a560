use Rattle.std.proofs.Common.{arith}
use Rattle.cells.specs.Grounded.{ev_at}
use Rattle.cells.specs.StoreLaws.{says, link_falls}
use Rattle.cells.proofs.write.root.Goals as goal

pub loop-next-preserved : goal.loop-next-preserved
loop-next-preserved c =
    let loop = c.loop-next in
    let read = c.get.ensures in
    let is = c.in-Link.is in
    let link = says c.args.cells.now loop.r read is in
    let falls = link_falls c.requires.0 loop.r read is in
    (omega arith, λ τ d. ev_at link (loop.invariant.1 τ d))
