-- `decimal::text::Text::number` meets its contract.
use Rattle.std.proofs.Common.{arith, ap, ◌∙◌}
use Rattle.decimal.specs.Decimal.{decimal}
use Rattle.decimal.specs.DecimalLaws.{printed_digits}
use Rattle.decimal.specs.TextLaws.{puts_as}
use Rattle.decimal.proofs.text.Text.number.Goals as goal

-- What is printed is n by its value, however the code writes it.
pub returns : goal.returns
returns c =
    let text = c.as_bytes.ensures.value in
    let shown = c.format.ensures in
    puts_as c.bytes.ensures (text ∙ shown.text ∙ printed_digits _ (omega arith) ∙ ap decimal (omega arith)) (rw text shown.fits)
