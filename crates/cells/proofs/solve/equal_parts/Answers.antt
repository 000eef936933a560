-- `cells::solve::equal_parts` meets its contract.
use Rattle.cells.specs.Saying.{parts_equal}
use Rattle.cells.proofs.solve.equal_parts.Goals as goal

pub returns : goal.returns
returns c =
    let (sound, inside) = c.requires in
    parts_equal sound inside c.put_pair.ensures c.solve.ensures
