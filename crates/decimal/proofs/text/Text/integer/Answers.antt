-- `decimal::text::Text::integer` meets its contract.
use Rattle.std.proofs.Common.{arith, ◌∙◌}
use Rattle.decimal.specs.TextLaws.{plain_written, negative_written}
use Rattle.decimal.proofs.text.Text.integer.Goals as goal

pub returns-then-p-lt2147483648 : goal.returns-then-p-lt2147483648
returns-then-p-lt2147483648 c =
    let digits = c.number.ensures in
    record { same = digits.same; written = plain_written _ c.if-p-lt2147483648.true digits.written }

pub returns : goal.returns
returns c =
    let sign = c.byte.ensures in
    let digits = c.number-2.ensures in
    record { same = digits.same ∙ sign.same; written = negative_written c.args.p c.if-p-lt2147483648.false (omega arith) sign.written digits.written }
