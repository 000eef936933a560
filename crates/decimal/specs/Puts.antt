-- Bytes are put into a lent text.
use Rattle.std.specs.Prelude.{ℕ, ◌≡◌, List}
use Rattle.lent.specs.Written.{Written, WrittenWithin}
use Rattle.decimal.specs.declared.text.Text.{Text}

-- They stand there one after the other, from the text's place on, as far as they fit. The place is behind them, and the lent bytes are the same.
pub record Puts (before : Text) (new : List ℕ) (after : Text) : Type 0 where
  pub same : after.lent.ghost_name ≡ before.lent.ghost_name
  pub written : Written before.lent.now before.at new after.lent.now after.at

-- The same, and they are at most so many.
pub record PutsWithin (most : ℕ) (before : Text) (new : List ℕ) (after : Text) : Type 0 where
  pub same : after.lent.ghost_name ≡ before.lent.ghost_name
  pub written : WrittenWithin most before.lent.now before.at new after.lent.now after.at
