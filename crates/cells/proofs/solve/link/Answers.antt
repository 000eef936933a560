-- `cells::solve::link` meets its contract.
use Rattle.cells.specs.Meetings.{copied_meeting, free_meeting, roots_alike, alike_meeting, clash_meeting}
use Rattle.cells.proofs.solve.link.Goals as goal

pub returns-then-low-eq0 : goal.returns-then-low-eq0
returns-then-low-eq0 c = copied_meeting c.requires c.if-low-eq0.true c.put_words.ensures c.put.ensures

pub returns-then-high-eq0 : goal.returns-then-high-eq0
returns-then-high-eq0 c = free_meeting c.requires c.put-then-high-eq0.ensures c.if-high-eq0.true

pub returns-then-low-high : goal.returns-then-low-high
returns-then-low-high c = clash_meeting c.requires c.if-low-eq0.false c.if-high-eq0.false c.if-low-high.true

pub arrow_parts-requires : goal.arrow_parts-requires
arrow_parts-requires c = roots_alike c.requires c.if-low-eq0.false c.if-low-high.false

pub returns : goal.returns
returns c = alike_meeting c.requires c.put-2.ensures c.arrow_parts.result c.arrow_parts.ensures
