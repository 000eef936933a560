-- The smaller of two numbers, computed by a test.
use Rattle.std.specs.Prelude.{ℕ, ◌≤◌, ◌<◌, min, ◌≡◌, refl, Bool, true, false, cond, ltb}
use Rattle.std.proofs.Common.{arith, ltb-true, ltb-false, lt-ltb, le-ltb}

abbrev pub smaller : ℕ → ℕ → ℕ
smaller a b = cond (ltb a b) a b

pub first_is_smaller : (a b : ℕ) → a < b → a ≡ smaller a b
first_is_smaller a b less = rw (lt-ltb a b less)

pub second_is_smaller : (a b : ℕ) → b ≤ a → b ≡ smaller a b
second_is_smaller a b less = rw (le-ltb a b less)

pub smaller_is_min : (a b : ℕ) → smaller a b ≡ min a b
smaller_is_min a b = go (ltb a b) refl
  where
    go : (less : Bool) → ltb a b ≡ less → cond less a b ≡ min a b
    go true e = omega (arith, ltb-true a b e)
    go false e = omega (arith, ltb-false a b e)
