use Rattle.std.proofs.Common.{arith}
use Rattle.decimal.specs.TextLaws.{numbers_none, numbers_more, numbers_all}
use Rattle.decimal.proofs.text.Text.numbers.Goals as goal

pub loop-n-init : goal.loop-n-init
loop-n-init c = numbers_none c.args.words.now c.args.self.now

pub loop-n-preserved : goal.loop-n-preserved
loop-n-preserved c = numbers_more _ c.loop-n.invariant (omega arith) c.byte.ensures c.number.ensures

pub returns : goal.returns
returns c = numbers_all _ c.loop-n.invariant (omega arith)
