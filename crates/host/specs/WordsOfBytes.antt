-- The words of bytes have 32 bits.
use Rattle.std.specs.Prelude.{ℕ, zero, suc, ◌<◌, List, [], ◌∷◌, get_or}
use Rattle.std.proofs.Common.{arith}
use Rattle.lent.specs.Bytes.{from_bytes}
use Rattle.table.specs.WordsOf32Bits.{WordsOf32Bits}
use Rattle.host.specs.BytesOf8Bits.{BytesOf8Bits}

word_below : (bytes : List ℕ) → ((i : ℕ) → get_or bytes i 0 < 256) → (i : ℕ) → get_or (from_bytes bytes) i 0 < 4294967296
unfolding from_bytes
word_below (a ∷ b ∷ c ∷ d ∷ rest) small zero = omega (arith, small 0, small 1, small 2, small 3)
word_below (a ∷ b ∷ c ∷ d ∷ rest) small (suc i) = word_below rest (λ j. small (suc (suc (suc (suc j))))) i
word_below (a ∷ b ∷ c ∷ []) small i = omega arith
word_below (a ∷ b ∷ []) small i = omega arith
word_below (a ∷ []) small i = omega arith
word_below [] small i = omega arith

pub words_of_bytes : {bytes : List ℕ} → BytesOf8Bits bytes → WordsOf32Bits (from_bytes bytes)
words_of_bytes {bytes} small = record { at = word_below bytes small.at }
