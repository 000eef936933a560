-- `cells::write::write_leaf` meets its contract.
use Rattle.cells.specs.WritingLaws.{leaf_wrote}
use Rattle.cells.proofs.write.write_leaf.Goals as goal

pub returns : goal.returns
returns c = leaf_wrote c.args.out.now c.requires.2 c.leaf-w.ensures
