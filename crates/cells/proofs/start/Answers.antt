-- `cells::start` meets its contract: all words are cleared, and then the four constants are written.
use Rattle.cells.specs.Starting.{cleared_first, one_started, all_started}
use Rattle.cells.proofs.start.Goals as goal

pub returns : goal.returns
returns c =
    let none = cleared_first c.clear.ensures in
    all_started (one_started (one_started (one_started (one_started none c.put.ensures) c.put-2.ensures) c.put-3.ensures) c.put-4.ensures)
