use Rattle.std.proofs.Common.{arith}
use Rattle.decimal.specs.TextLaws.{bytes_more}
use Rattle.decimal.proofs.text.Text.bytes.Goals as goal

pub loop-b-preserved : goal.loop-b-preserved
loop-b-preserved c = bytes_more _ c.loop-b.invariant (omega arith) c.byte.ensures
