-- A list is written into a slice from a place on.
use Rattle.std.specs.Prelude.{ℕ, ◌+◌, ◌-◌, ◌≤◌, min, ◌≡◌, List, length}
use Rattle.std.proofs.lemmas.List.Edits.{sets}

-- The new stand there one after the other, as far as they fit, and all others are as before; the next place is behind those that fit.
pub record Written (before : List ℕ) (at : ℕ) (new after : List ℕ) (next : ℕ) : Type 0 where
  pub is : after ≡ sets before at new
  pub next_is : next ≡ at + min (length new) (length before - at)

-- The same, and the new are at most so many.
pub record WrittenWithin (most : ℕ) (before : List ℕ) (at : ℕ) (new after : List ℕ) (next : ℕ) : Type 0 where
  pub written : Written before at new after next
  pub few : length new ≤ most
