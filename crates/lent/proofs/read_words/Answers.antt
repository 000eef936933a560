use Rattle.std.proofs.Common.{arith}
use Rattle.lent.specs.ByteLaws.{word_read, words_read}
use Rattle.lent.proofs.read_words.Goals as goal

pub loop-i-preserved : goal.loop-i-preserved
loop-i-preserved c = word_read _ c.loop-i.invariant c.as_chunks.ensures.front (omega arith) c.from_le_bytes.ensures

pub returns : goal.returns
returns c = words_read _ c.loop-i.invariant (omega arith)
