use Rattle.std.specs.Int.{w32, to_le_bytes}
use Rattle.std.proofs.Common.{arith, ap, ◌∙◌}
use Rattle.lent.specs.ByteLaws.{byte_written, bytes_written}
use Rattle.lent.proofs.write_bytes.Goals as goal

-- The bytes are those of the word at i / 4 by its value, however the code writes it.
pub loop-i-preserved : goal.loop-i-preserved
loop-i-preserved c = byte_written _ c.loop-i.invariant (c.to_le_bytes.ensures ∙ ap (to_le_bytes w32) (omega arith)) (omega arith)

pub returns : goal.returns
returns c = bytes_written _ c.loop-i.invariant (omega arith)
