-- `cells::ground::leans` meets its contract: a link leans on one cell, an arrow on two, and no other cell on any.
use Rattle.std.proofs.Common.{sym, ◌∙◌}
use Rattle.cells.specs.CellSteps.{not_link, not_arrow}
use Rattle.cells.specs.GroundLaws.{link_leans, arrow_leans_left, arrow_leans_right, other_evaluates}
use Rattle.cells.proofs.ground.leans.Goals as goal

pub returns-in-Link : goal.returns-in-Link
returns-in-Link c = link_leans c.requires c.get.ensures c.in-Link.is c.is_unmarked.ensures

pub returns-then-is_unmarked : goal.returns-then-is_unmarked
returns-then-is_unmarked c =
    let waits = c.if-is_unmarked.true in
    rw waits (arrow_leans_left c.requires c.get.ensures c.in-Arrow.is (sym c.is_unmarked-in-Arrow.ensures ∙ waits))

pub returns-else-is_unmarked : goal.returns-else-is_unmarked
returns-else-is_unmarked c =
    let marked = sym c.is_unmarked-in-Arrow.ensures ∙ c.if-is_unmarked.false in
    arrow_leans_right c.requires c.get.ensures c.in-Arrow.is marked c.is_unmarked-else-is_unmarked.ensures

pub returns-in_default : goal.returns-in_default
returns-in_default c = other_evaluates c.requires c.get.ensures (not_link _ c.in_default.not-Link) (not_arrow _ c.in_default.not-Arrow)
