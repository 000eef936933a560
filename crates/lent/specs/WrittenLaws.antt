-- One list is written after the other.
use Rattle.std.specs.Prelude.{ℕ, suc, ◌+◌, ◌≤◌, ◌<◌, ◌≡◌, refl, List, [], ◌∷◌, ◌++◌, length, set}
use Rattle.std.proofs.Common.{sym, ◌∙◌, ap, arith, add-zero, length-append}
use Rattle.std.proofs.Math.Decide.{dec_le}
use Rattle.std.proofs.lemmas.List.Edits.{sets}
use Rattle.std.proofs.Math.Seq.{length-sets, set_out}
use Rattle.lent.specs.Written.{Written, WrittenWithin}

-- Nothing is written past the end.
sets_past : (l : List ℕ) (at : ℕ) (new : List ℕ) → length l ≤ at → sets l at new ≡ l
sets_past l at [] past = refl
sets_past l at (x ∷ new) past = rw (set_out l at x past) (sets_past l (suc at) new (omega arith))

sets_then : (l : List ℕ) (at : ℕ) (new more : List ℕ) → sets (sets l at new) (at + length new) more ≡ sets l at (new ++ more)
sets_then l at [] more = rw add-zero
sets_then l at (x ∷ new) more =
    let further : at + suc (length new) ≡ suc at + length new = omega arith in
    rw further (sets_then (set l at x) (suc at) new more)

pub written_none : (l : List ℕ) (at : ℕ) → Written l at [] l at
written_none l at = record { is = refl; next_is = omega arith }

pub written_one : (l : List ℕ) {at : ℕ} (x : ℕ) → at < length l → Written l at (x ∷ []) (set l at x) (at + 1)
written_one l x inside = record { is = refl; next_is = omega arith }

pub written_past : (l : List ℕ) {at : ℕ} (new : List ℕ) → length l ≤ at → Written l at new l at
written_past l {at} new past = record { is = sym (sets_past l at new past); next_is = omega arith }

module _ {before new after : List ℕ} {at next : ℕ} (w : Written before at new after next) where
  pub written_length : length after ≡ length before
  written_length = ap length w.is ∙ length-sets before at new

  pub written_then : {more after' : List ℕ} {next' : ℕ} → Written after next more after' next' → Written before at (new ++ more) after' next'
  written_then {more} v = record {
    is = v.is ∙ go (dec_le (at + length new) (length before)) ∙ ap (λ l. sets l (at + length new) more) w.is ∙ sets_then before at new more;
    next_is = rw length-append (omega (arith, w.next_is, v.next_is, written_length));
  }
    where
      go : Dec (at + length new ≤ length before) → sets after next more ≡ sets after (at + length new) more
      go (yes fits) = let whole : next ≡ at + length new = omega (arith, w.next_is) in rw whole
      go (no over) = sets_past after next more (omega (arith, w.next_is, written_length)) ∙ sym (sets_past after (at + length new) more (omega (arith, written_length)))

pub within_itself : {before new after : List ℕ} {at next : ℕ} → Written before at new after next → WrittenWithin (length new) before at new after next
within_itself w = record { written = w; few = omega arith }

pub within_more : {most more : ℕ} {before new after : List ℕ} {at next : ℕ} → most ≤ more → WrittenWithin most before at new after next → WrittenWithin more before at new after next
within_more enough w = record { written = w.written; few = omega (arith, w.few) }

pub within_then : {most₁ most₂ : ℕ} {before new₁ new₂ after₁ after₂ : List ℕ} {at next₁ next₂ : ℕ} → WrittenWithin most₁ before at new₁ after₁ next₁ → WrittenWithin most₂ after₁ next₁ new₂ after₂ next₂ →
    WrittenWithin (most₁ + most₂) before at (new₁ ++ new₂) after₂ next₂
within_then w v = record { written = written_then w.written v.written; few = rw length-append (omega (arith, w.few, v.few)) }
