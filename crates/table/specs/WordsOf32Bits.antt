-- What every slice of 32-bit words has: each of its words is below 2^32.
use Rattle.std.specs.Prelude.{ℕ, ◌<◌, List}
use Rattle.table.specs.Node.{word_at}

pub record WordsOf32Bits (words : List ℕ) : Type 0 where
  pub at : (i : ℕ) → word_at words i < 4294967296
