-- The type of an inference entry: the words that are lent for it, and its bytes.
use Rattle.std.specs.Prelude.{ℕ, zero, suc, ◌*◌, ◌/◌, ◌≤◌, min, ◌≡◌, refl, Result, Ok, Err, List, ◌∷◌, length, take}
use Rattle.std.proofs.Common.{sym, ◌∙◌, ap, subst, arith, length-take-le}
use Rattle.std.proofs.lemmas.List.{length-replicate}
use Rattle.lent.specs.Cleared.{zeros}
use Rattle.lent.specs.Smaller.{smaller_is_min}
use Rattle.lent.specs.Bytes.{to_bytes, overwrite}
use Rattle.lent.specs.Writing.{overwrite_fits}
use Rattle.lent.specs.ByteLaws.{length-to_bytes}
use Rattle.inference.specs.Inference.{leaves, Infers, code_of, place_of}
use Rattle.inference.specs.TypeWithin.{type_within}
use Rattle.inference.specs.declared.Untyped.{Untyped}
use Rattle.host.specs.Entries.{packed, out_after, InfersTo, InfersOn}
use Rattle.host.specs.Rooms.{OutRoom}

-- ---- The words that are lent

take_zeros : (n m : ℕ) → n ≤ m → take n (zeros m) ≡ zeros n
take_zeros zero m h = refl
take_zeros (suc n) zero h = absurd (omega arith)
take_zeros (suc n) (suc m) h = ap {B = List ℕ} (λ r. 0 ∷ r) (take_zeros n m (omega arith))

module _ {room : ℕ} (out : List ℕ) (is : room ≡ min (length out / 4) 1024) where
  pub room_lent : length (take room (zeros 1024)) ≡ room
  room_lent = ap length (take_zeros room 1024 (omega arith)) ∙ length-replicate room 0

  pub out_room : OutRoom (take room (zeros 1024)) out
  out_room = record { few = omega (arith, room_lent); within = omega (arith, room_lent) }

  pub infers_on : {words out' : List ℕ} {r : ℕ} → InfersTo words (zeros 12304) (take room (zeros 1024)) out out' r → InfersOn words out out' r
  infers_on {words} {out'} {r} i =
      subst (λ type_words. InfersTo words (zeros 12304) type_words out out' r) (take_zeros room 1024 (omega arith) ∙ ap zeros (is ∙ sym (smaller_is_min (length out / 4) 1024))) i

-- ---- The bytes

-- The type's words are lent, and its bytes have room.
abbrev pub TypeRoom : Result ℕ Untyped → List ℕ → List ℕ → Type 0
TypeRoom (Ok count) type_words out = (count ≤ length type_words) × (count ≤ 1024) × (4 * count ≤ length out)
TypeRoom (Err untyped) type_words out = Unit {0}

-- The number of an inference, and its bytes in the place of out.
pub record Told (a : Result ℕ Untyped) (type_words out out' : List ℕ) (r : ℕ) : Type 0 where
  pub number : r ≡ packed (code_of a) (place_of a)
  pub out_is_after : out' ≡ out_after a type_words out

pub type_told : {count : ℕ} (type_words : List ℕ) {out out' : List ℕ} {r : ℕ} → TypeRoom (Ok count) type_words out → r ≡ packed 0 count → out' ≡ overwrite (to_bytes (take count type_words)) out →
    Told (Ok count) type_words out out' r
type_told {count} type_words {out} (lent, few, room) number is =
    let size : length (to_bytes (take count type_words)) ≡ 4 * count = length-to_bytes (take count type_words) ∙ ap (λ n. 4 * n) (length-take-le count type_words lent) in
    record { number = number; out_is_after = is ∙ rw size at (overwrite_fits (to_bytes (take count type_words)) out (omega arith)) }

pub type_room : {words work type_words work' type_words' : List ℕ} {a : Result ℕ Untyped} → Infers words work type_words (leaves a work' type_words') → {out : List ℕ} → length type_words' ≡ length type_words → OutRoom type_words out → TypeRoom a type_words' out
type_room {words} {work} {type_words} {work'} {type_words'} {a} i {out} kept room = go a i
  where
    go : (a : Result ℕ Untyped) → Infers words work type_words (leaves a work' type_words') → TypeRoom a type_words' out
    go (Ok count) i =
        let within = type_within i refl in
        (omega arith, omega (arith, room.few), omega (arith, room.within))
    go (Err untyped) i = tt
