-- `decimal::text::Text::bytes` meets its contract. The loop's invariant: the first bytes are written.
use Rattle.std.proofs.Common.{take}
use Rattle.decimal.specs.Puts.{Puts}
use Rattle.decimal.proofs.text.Text.bytes.Given as goal

abbrev pub invariant-loop-b : goal.invariant-loop-b
invariant-loop-b l = Puts l.initial.self (take l.b-index l.source) l.self
