-- Each word of bytes, and each byte of words, by its index.
use Rattle.std.specs.Prelude.{ℕ, zero, suc, ◌+◌, ◌*◌, ◌/◌, ◌%◌, ◌≤◌, ◌<◌, min, ◌≡◌, refl, List, [], ◌∷◌, length, take, get_or, set}
use Rattle.std.specs.Int.{w32, from_le_bytes, to_le_bytes}
use Rattle.std.specs.Simd.{first_chunks}
use Rattle.std.proofs.Common.{sym, ◌∙◌, arith}
use Rattle.lent.specs.Bytes.{from_bytes, to_bytes, overwrite}
use Rattle.lent.specs.Written.{Written}
use Rattle.lent.specs.Writing.{overwrites, overwritten}

-- ---- Bytes are read

pub length-from_bytes : (bytes : List ℕ) → length (from_bytes bytes) ≡ length bytes / 4
unfolding from_bytes
length-from_bytes (a ∷ b ∷ c ∷ d ∷ rest) =
    let shorter = length-from_bytes rest in
    omega arith
length-from_bytes (a ∷ b ∷ c ∷ []) = refl
length-from_bytes (a ∷ b ∷ []) = refl
length-from_bytes (a ∷ []) = refl
length-from_bytes [] = refl

-- Each word is that of a quad of bytes.
quad_is : (bytes : List ℕ) (k i : ℕ) → i < k → k ≤ length (from_bytes bytes) → from_le_bytes w32 (get_or (first_chunks 4 k bytes) i []) ≡ get_or (from_bytes bytes) i 0
unfolding from_bytes
quad_is bytes zero i h fits = absurd (omega arith)
quad_is (a ∷ b ∷ c ∷ d ∷ rest) (suc k) zero h fits = omega arith
quad_is (a ∷ b ∷ c ∷ d ∷ rest) (suc k) (suc i) h fits = quad_is rest k i (omega arith) (omega arith)
quad_is (a ∷ b ∷ c ∷ []) (suc k) i h fits = absurd (omega arith)
quad_is (a ∷ b ∷ []) (suc k) i h fits = absurd (omega arith)
quad_is (a ∷ []) (suc k) i h fits = absurd (omega arith)
quad_is [] (suc k) i h fits = absurd (omega arith)

module _ (bytes : List ℕ) {words₀ words : List ℕ} {i : ℕ} (read : Written words₀ 0 (take i (from_bytes bytes)) words i) where
  pub word_read : {quads : List (List ℕ)} {w : ℕ} → quads ≡ first_chunks 4 (length bytes / 4) bytes → i < min (length bytes / 4) (length words₀) → w ≡ from_le_bytes w32 (get_or quads i []) →
      Written words₀ 0 (take (i + 1) (from_bytes bytes)) (set words i w) (i + 1)
  word_read quads more is =
      let inside : i < length (from_bytes bytes) = omega (arith, length-from_bytes bytes) in
      overwrites (from_bytes bytes) read inside (omega arith) (is ∙ rw quads (quad_is bytes (length bytes / 4) i (omega arith) (omega (arith, length-from_bytes bytes))))

  pub words_read : min (length bytes / 4) (length words₀) ≤ i → words ≡ overwrite (from_bytes bytes) words₀
  words_read all = overwritten (from_bytes bytes) read (omega (arith, length-from_bytes bytes))

-- ---- Bytes are written

pub length-to_bytes : (words : List ℕ) → length (to_bytes words) ≡ 4 * length words
unfolding to_bytes
length-to_bytes [] = refl
length-to_bytes (w ∷ words) =
    let shorter = length-to_bytes words in
    omega arith

byte_is : (words : List ℕ) (i : ℕ) → i < length (to_bytes words) → get_or (to_bytes words) i 0 ≡ get_or (to_le_bytes w32 (get_or words (i / 4) 0)) (i % 4) 0
unfolding to_bytes
byte_is [] i h = absurd (omega arith)
byte_is (w ∷ words) zero h = refl
byte_is (w ∷ words) (suc zero) h = refl
byte_is (w ∷ words) (suc (suc zero)) h = refl
byte_is (w ∷ words) (suc (suc (suc zero))) h = refl
byte_is (w ∷ words) (suc (suc (suc (suc i)))) h =
    let next : suc (suc (suc (suc i))) / 4 ≡ suc (i / 4) = omega arith in
    let again : suc (suc (suc (suc i))) % 4 ≡ i % 4 = omega arith in
    rw (next, again) (byte_is words i (omega arith))

module _ (words : List ℕ) {bytes₀ bytes : List ℕ} {i : ℕ} (written : Written bytes₀ 0 (take i (to_bytes words)) bytes i) where
  pub byte_written : {four : List ℕ} → four ≡ to_le_bytes w32 (get_or words (i / 4) 0) → i < min (length bytes₀) (4 * length words) →
      Written bytes₀ 0 (take (i + 1) (to_bytes words)) (set bytes i (get_or four (i % 4) 0)) (i + 1)
  byte_written is more =
      let inside : i < length (to_bytes words) = omega (arith, length-to_bytes words) in
      overwrites (to_bytes words) written inside (omega arith) (rw is (sym (byte_is words i inside)))

  pub bytes_written : min (length bytes₀) (4 * length words) ≤ i → bytes ≡ overwrite (to_bytes words) bytes₀
  bytes_written all = overwritten (to_bytes words) written (omega (arith, length-to_bytes words))
