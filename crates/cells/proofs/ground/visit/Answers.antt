-- `cells::ground::visit` meets its contract: a marked cell is left alone, so is one that leans, and any other evaluates.
use Rattle.std.proofs.Common.{sym, ◌∙◌}
use Rattle.cells.specs.GroundLaws.{visit_marked, visit_leaning, progress_one}
use Rattle.cells.proofs.ground.visit.Goals as goal

pub returns-then-not-is_unmarked : goal.returns-then-not-is_unmarked
returns-then-not-is_unmarked c = visit_marked c.requires (sym c.is_unmarked.ensures ∙ c.if-not-is_unmarked.true)

pub returns-then-leans : goal.returns-then-leans
returns-then-leans c =
    visit_leaning c.requires (rw c.if-leans.true at c.leans.ensures)

pub returns : goal.returns
returns c =
    let waits = sym c.is_unmarked.ensures ∙ c.if-not-is_unmarked.false in
    progress_one c.requires waits (rw c.if-leans.false at c.leans.ensures) c.put_pair.ensures
