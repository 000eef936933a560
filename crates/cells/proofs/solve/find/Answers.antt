use Rattle.cells.specs.CellSteps.{not_link}
use Rattle.cells.specs.Paths.{at_root, one_further, link_past}
use Rattle.cells.proofs.solve.find.Goals as goal

pub returns-in_default-get : goal.returns-in_default-get
returns-in_default-get c =
    at_root (one_further c.loop-next.invariant c.get.ensures c.in-Link.is) c.get-in-loop-next.ensures (not_link _ c.in_default-get.not-Link)

pub loop-next-preserved : goal.loop-next-preserved
loop-next-preserved c =
    link_past c.loop-next.invariant c.get.ensures c.in-Link.is c.get-in-loop-next.ensures c.in-Link-get.is c.put.ensures
