-- How many numbers below a bound a test holds of.
use Prim.Native.Nat.{ℕ, zero, suc, ◌+◌, ◌≤◌, ◌<◌}
use Rattle.std.specs.Prelude.{◌≡◌, Bool, true, false, ◌≢◌}
use Rattle.std.proofs.Math.Path.{refl}
use Rattle.std.proofs.Math.Decide.{ℕ_discrete}
use native.Mathlib.Omega.{arith}
use Rattle.language.specs.Once.{once}

unfoldable pub count : (ℕ → Bool) → ℕ → ℕ
count p zero = 0
count p (suc n) = once (p n) + count p n

pub once_small : (t : Bool) → once t ≤ 1
once_small true = omega arith
once_small false = omega arith

pub count_bound : (p : ℕ → Bool) (n : ℕ) → count p n ≤ n
unfolding count
count_bound p zero = omega arith
count_bound p (suc n) =
    let rest = count_bound p n in
    let one = once_small (p n) in
    omega arith

-- A test that fails at 0 leaves one number out.
pub count_but_0 : (p : ℕ → Bool) (n : ℕ) → 0 < n → p 0 ≡ false → count p n < n
unfolding count
count_but_0 p zero h e = absurd (omega arith)
count_but_0 p (suc zero) h e = rw e (omega arith)
count_but_0 p (suc (suc n)) h e =
    let rest = count_but_0 p (suc n) (omega arith) e in
    let one = once_small (p (suc n)) in
    omega arith

pub count_same : (p q : ℕ → Bool) → ((j : ℕ) → p j ≡ q j) → (n : ℕ) → count p n ≡ count q n
unfolding count
count_same p q same zero = refl
count_same p q same (suc n) = rw (same n, count_same p q same n) refl

-- Two tests that differ at i only.
module _ (p q : ℕ → Bool) (i : ℕ) (same : (j : ℕ) → j ≢ i → q j ≡ p j) where
  count_past : (n : ℕ) → n ≤ i → count q n ≡ count p n
  unfolding count
  count_past zero h = refl
  count_past (suc n) h = rw (same n (omega arith), count_past n (omega arith)) refl

  pub count_changed : (n : ℕ) → i < n → once (p i) + count q n ≡ once (q i) + count p n
  unfolding count
  count_changed zero h = absurd (omega arith)
  count_changed (suc n) h = go (ℕ_discrete n i) (λ below. count_changed n below)
    where
      go : Dec (n ≡ i) → (i < n → once (p i) + count q n ≡ once (q i) + count p n) → once (p i) + (once (q n) + count q n) ≡ once (q i) + (once (p n) + count p n)
      go (yes e) rest =
          let past = count_past n (omega arith) in
          let at_p : once (p n) ≡ once (p i) = rw e refl in
          let at_q : once (q n) ≡ once (q i) = rw e refl in
          omega arith
      go (no ne) rest =
          let before = rest (omega arith) in
          let at_n : once (q n) ≡ once (p n) = rw (same n ne) refl in
          omega arith

-- ---- Counts that are full, empty, or neither

pub count_all : (p : ℕ → Bool) (n : ℕ) → ((i : ℕ) → i < n → p i ≡ true) → count p n ≡ n
unfolding count
count_all p zero all = refl
count_all p (suc n) all =
    let rest = count_all p n (λ i h. all i (omega arith)) in
    rw (all n (omega arith)) (omega arith)

pub count_none : (p : ℕ → Bool) (n : ℕ) → count p n ≡ 0 → (i : ℕ) → i < n → p i ≡ false
unfolding count
count_none p zero e i h = absurd (omega arith)
count_none p (suc n) e i h = go (p n) refl (ℕ_discrete i n) (λ none below. count_none p n none i below)
  where
    go : (t : Bool) → p n ≡ t → Dec (i ≡ n) → (count p n ≡ 0 → i < n → p i ≡ false) → p i ≡ false
    go true q at rest = absurd (let one : 1 + count p n ≡ 0 = rw q at e in omega arith)
    go false q (yes at) rest = rw at q
    go false q (no past) rest =
        let none : 0 + count p n ≡ 0 = rw q at e in
        rest (omega arith) (omega arith)

pub count_some : (p : ℕ → Bool) (n : ℕ) → 0 < count p n → (i : ℕ) × (i < n) × (p i ≡ true)
unfolding count
count_some p zero h = absurd (omega arith)
count_some p (suc n) h = go (p n) refl (count_some p n)
  where
    go : (t : Bool) → p n ≡ t → (0 < count p n → (i : ℕ) × (i < n) × (p i ≡ true)) → (i : ℕ) × (i < suc n) × (p i ≡ true)
    go true q rest = (n, omega arith, q)
    go false q rest =
        let some : 0 < 0 + count p n = rw q at h in
        let (i, below, is) = rest (omega arith) in
        (i, omega arith, is)

pub none_counted : (p : ℕ → Bool) → ((j : ℕ) → p j ≡ false) → (n : ℕ) → count p n ≡ 0
unfolding count
none_counted p none zero = refl
none_counted p none (suc n) = rw (none n, none_counted p none n)
