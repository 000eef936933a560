-- `cells::grounded` meets its contract: marks are cleared, and then cells are marked.
use Rattle.std.proofs.Common.{arith}
use Rattle.cells.specs.GroundLaws.{all_unmarked, tested_since}
use Rattle.cells.proofs.grounded.Goals as goal

pub sweep-requires : goal.sweep-requires
sweep-requires c =
    let whole = c.requires.whole in
    (all_unmarked whole c.unmark.ensures, omega arith)

pub returns : goal.returns
returns c =
    tested_since c.unmark.ensures.same c.sweep.ensures
