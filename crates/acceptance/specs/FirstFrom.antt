-- The laws of `first_from`, the smallest of some places that a test finds: one step of it, and that it finds nothing exactly if the test
-- finds no place.
use Prim.Native.Nat.{ℕ, zero, suc, ◌+◌, ◌≤◌, ◌<◌}
use Rattle.std.specs.Prelude.{◌≡◌, Bool, true, false, None, Some}
use Rattle.std.proofs.Math.Path.{refl}
use Rattle.std.proofs.Common.{sym, ◌∙◌, arith}
use Rattle.std.proofs.Math.Decide.{ℕ_discrete}
use Rattle.acceptance.specs.Refusals.{first_from}

module _ (bad : ℕ → Bool) where
  pub first_here : (count at : ℕ) → bad at ≡ true → first_from bad (suc count) at ≡ Some at
  unfolding first_from
  first_here count at h = rw h

  pub first_next : (count at : ℕ) → bad at ≡ false → first_from bad (suc count) at ≡ first_from bad count (suc at)
  unfolding first_from
  first_next count at h = rw h

  pub first_none : (count at : ℕ) → first_from bad count at ≡ None → (k : ℕ) → at ≤ k → k < at + count → bad k ≡ false
  first_none zero at e k low high = absurd (omega arith)
  first_none (suc count) at e k low high = go (bad at) refl (ℕ_discrete at k) (λ later. first_none count (suc at) later k)
    where
      go : (b : Bool) → bad at ≡ b → Dec (at ≡ k) → (first_from bad count (suc at) ≡ None → suc at ≤ k → k < suc at + count → bad k ≡ false) → bad k ≡ false
      go true h d rest = absurd (let z : ◌≡◌ {A = ℕ} 0 1 = cc (first_here count at h) in omega arith)
      go false h (yes q) rest = rw (← q) h
      go false h (no q) rest = rest (sym (first_next count at h) ∙ e) (omega arith) (omega arith)

  pub none_first : (count at : ℕ) → ((k : ℕ) → at ≤ k → k < at + count → bad k ≡ false) → first_from bad count at ≡ None
  unfolding first_from
  none_first zero at h = refl
  none_first (suc count) at h = rw (h at (omega arith) (omega arith)) (none_first count (suc at) λ k low high. h k (omega arith) (omega arith))

-- Two tests that agree find the same.
pub first_same : {bad bad' : ℕ → Bool} (count at : ℕ) → ((k : ℕ) → at ≤ k → k < at + count → bad k ≡ bad' k) → first_from bad count at ≡ first_from bad' count at
unfolding first_from
first_same zero at h = refl
first_same (suc count) at h = rw (h at (omega arith) (omega arith), first_same count (suc at) λ k low high. h k (omega arith) (omega arith))
