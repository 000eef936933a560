use Rattle.cells.specs.WritingLaws.{wrote_none, root_wrote, right_part_next}
use Rattle.cells.proofs.write.+write.Goals as goal

pub returns-then-rest-eq0 : goal.returns-then-rest-eq0
returns-then-rest-eq0 t c = let inv = c.loop-rest.invariant in inv.goes_on (wrote_none inv.ready c.if-rest-eq0.true)

pub returns-in_default : goal.returns-in_default
returns-in_default t c = c.loop-rest.invariant.goes_on (root_wrote c.root-r.ensures c.write_leaf.ensures)

pub loop-rest-preserved : goal.loop-rest-preserved
loop-rest-preserved t c =
    right_part_next c.loop-rest.invariant c.if-rest-eq0.false c.root-r.ensures c.get.ensures c.in-Arrow.is c.write-rest.ensures
