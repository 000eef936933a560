-- `decimal::text::Text::numbers` meets its contract. The loop's invariant: the first numbers are written.
use Rattle.std.proofs.Common.{◌*◌, map, take}
use Rattle.decimal.specs.Decimal.{decimal, spaced}
use Rattle.decimal.specs.Puts.{PutsWithin}
use Rattle.decimal.proofs.text.Text.numbers.Given as goal

abbrev pub invariant-loop-n : goal.invariant-loop-n
invariant-loop-n l = PutsWithin (11 * l.n-index) l.initial.self (spaced (map decimal (take l.n-index l.words))) l.self
