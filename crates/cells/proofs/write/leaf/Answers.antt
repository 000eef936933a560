-- `cells::write::leaf` meets its contract: a base type's word.
use Rattle.std.proofs.Common.{refl}
use Rattle.cells.specs.WritingLaws.{base_spelled}
use Rattle.cells.proofs.write.leaf.Goals as goal

pub returns-in-UnitType : goal.returns-in-UnitType
returns-in-UnitType c = base_spelled c.requires.0 c.requires.1 c.get.ensures (rw c.in-UnitType.is refl)

pub returns-in-BoolType : goal.returns-in-BoolType
returns-in-BoolType c = base_spelled c.requires.0 c.requires.1 c.get.ensures (rw c.in-BoolType.is refl)

pub returns-in-IntType : goal.returns-in-IntType
returns-in-IntType c = base_spelled c.requires.0 c.requires.1 c.get.ensures (rw c.in-IntType.is refl)
