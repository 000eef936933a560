-- `cells::memory::put_pair` meets its contract: two words written in a row are the pair.
use Rattle.std.proofs.Common.{arith, length-set}
use Rattle.cells.specs.LayoutLaws.{pair_put}
use Rattle.cells.proofs.memory.put_pair.Goals as goal

pub bounds-cells-at-2 : goal.bounds-cells-at-2
bounds-cells-at-2 c = simp length-set (omega arith)

pub returns : goal.returns
returns c = pair_put c.args.cells.now c.args.i c.args.p c.requires
