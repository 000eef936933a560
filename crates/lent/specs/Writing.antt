-- A list is written element by element.
use Rattle.std.specs.Prelude.{ℕ, ◌+◌, ◌≤◌, ◌<◌, min, ◌≡◌, List, [], ◌∷◌, ◌++◌, length, take, drop, get_or, set}
use Rattle.std.proofs.Common.{◌∙◌, ap, append-nil, arith, add-one, zero-add, take-append-drop, take-suc, take_all, take_at}
use Rattle.std.proofs.Math.Decide.{dec_le}
use Rattle.std.proofs.lemmas.List.Edits.{sets-eq}
use Rattle.std.proofs.Math.Seq.{drop-length}
use Rattle.lent.specs.Bytes.{overwrite}
use Rattle.lent.specs.Written.{Written}
use Rattle.lent.specs.WrittenLaws.{written_one, written_past, written_length, written_then}

-- ---- From any place on

-- The first i of the new are written.
module _ (new : List ℕ) (i : ℕ) {before now : List ℕ} {at next : ℕ} (so_far : Written before at (take i new) now next) where
  pub writing_more : {now' : List ℕ} {next' : ℕ} → i < length new → Written now next (get_or new i 0 ∷ []) now' next' → Written before at (take (i + 1) new) now' next'
  writing_more more one = rw (add-one, take-suc new i 0 more) (written_then so_far one)

  pub writing_all : length new ≤ i → Written before at new now next
  writing_all all = rw (take_all i new all) at so_far

  -- No other fits.
  pub writing_full : length now ≤ next → Written before at new now next
  writing_full full = rw (take-append-drop i new) at (written_then so_far (written_past now (drop i new) full))

-- ---- In the place of the first elements

module _ (new : List ℕ) {old now : List ℕ} {i : ℕ} (so_far : Written old 0 (take i new) now i) where
  pub overwrites : {x : ℕ} → i < length new → i < length old → x ≡ get_or new i 0 → Written old 0 (take (i + 1) new) (set now i x) (i + 1)
  overwrites {x} more inside is = writing_more new i so_far more (rw (← is) (written_one now x (omega (arith, written_length so_far))))

  pub overwritten : min (length new) (length old) ≤ i → now ≡ overwrite new old
  overwritten all = go (dec_le (length new) i)
    where
      go : Dec (length new ≤ i) → now ≡ overwrite new old
      go (yes every) = (writing_all new i so_far every).is
      go (no not_every) = (writing_full new i so_far (omega (arith, written_length so_far))).is

-- ---- As a whole

-- What fits stands there whole.
pub overwrite_fits : (new old : List ℕ) → length new ≤ length old → overwrite new old ≡ new ++ drop (length new) old
overwrite_fits new old fits = sets-eq new old 0 (omega arith) ∙ rw zero-add

pub overwrite_all : (new old : List ℕ) → length new ≡ length old → overwrite new old ≡ new
overwrite_all new old same = overwrite_fits new old (omega arith) ∙ rw (same, drop-length) (append-nil new)

pub first_written : {new old now : List ℕ} {n : ℕ} → Written old 0 new now n → length new ≤ length old → take n now ≡ new
first_written {new} {old} {n = n} w fits =
    rw w.is (ap (take n) (overwrite_fits new old fits) ∙ take_at new (drop (length new) old) n (omega (arith, w.next_is)))
