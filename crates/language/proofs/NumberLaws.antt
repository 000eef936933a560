-- A law of numbers for code that tells operators, kinds or tags apart by one number after the other.
use Rattle.std.specs.Prelude.{ℕ, suc, ◌≤◌, ◌≡◌}
use Rattle.std.proofs.Common.{arith}

-- One number more that x is not.
pub not_this : {k x : ℕ} → k ≤ x → (x ≡ k → ⊥) → suc k ≤ x
not_this h ne = omega arith
