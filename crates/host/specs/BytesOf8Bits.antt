-- What every slice of bytes has: each of its bytes is below 256.
use Rattle.std.specs.Prelude.{ℕ, ◌<◌, List, get_or}

pub record BytesOf8Bits (bytes : List ℕ) : Type 0 where
  pub at : (i : ℕ) → get_or bytes i 0 < 256
