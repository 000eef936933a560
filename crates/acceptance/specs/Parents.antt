-- Code 3 as the code finds it. Where every node fits its rule, a node's parents stand below it, so that it is enough to count there.
use Prim.Native.Nat.{ℕ, zero, suc, ◌+◌, ◌≤◌, ◌<◌}
use Rattle.std.specs.Prelude.{◌≡◌, Bool, true, false, not, ◌&&◌, List, eqb, Some}
use Rattle.std.proofs.Math.Path.{refl}
use Rattle.std.proofs.Common.{ap, eq-eqb, ne_eqb}
use Rattle.std.proofs.Math.Bool.{and-false}
use Rattle.std.proofs.Math.Decide.{ℕ_discrete}
use Rattle.std.proofs.Math.Numerals.{add-one}
use native.Mathlib.Omega.{arith}
use Rattle.table.specs.Node.{Nodes, Field, field_a, field_b, field_c, child, node_at}
use Rattle.table.specs.Walk.{holds}
use Rattle.acceptance.specs.Refusals.{fits, times_in, times_below, misplaced, first_from}
use Rattle.acceptance.specs.Counting.{misplaced_below}
use Rattle.acceptance.specs.FirstFrom.{first_same}
use Rattle.table.specs.TreeLaws.{holds_true}
use Rattle.acceptance.specs.Fitting.{kids_of_fitting_in_range}

module _ (nd : Nodes) (k : ℕ) where
  -- ---- The count as a loop makes it

  pub times_start : times_below nd 0 k ≡ 0
  unfolding times_below
  times_start = refl

  pub times_next : (p : ℕ) → times_below nd (p + 1) k ≡ times_below nd p k + times_in (nd p) k
  unfolding times_below
  times_next p = rw add-one

  pub times_grow : (p n : ℕ) → p ≤ n → times_below nd p k ≤ times_below nd n k
  unfolding times_below
  times_grow p zero h = let e : p ≡ 0 = omega arith in rw e (omega arith)
  times_grow p (suc n) h = go (ℕ_discrete p (suc n)) (times_grow p n)
    where
      go : Dec (p ≡ suc n) → (p ≤ n → times_below nd p k ≤ times_below nd n k) → times_below nd p k ≤ times_below nd (suc n) k
      go (yes e) below = rw e (omega arith)
      go (no e) below = omega (arith, below (omega arith))

  pub misplaced_if : 0 < k → (times_below nd k k ≡ 1 → ⊥) → misplaced_below nd k ≡ true
  misplaced_if low h = rw (ne_eqb k 0 (omega arith), ne_eqb (times_below nd k k) 1 h)

  pub placed_if : times_below nd k k ≡ 1 → misplaced_below nd k ≡ false
  placed_if h = rw (eq-eqb (times_below nd k k) 1 h) (and-false (not (eqb k 0)))

  -- ---- Where it is enough

  no_times : (p : ℕ) → ((f : Field) → child (nd p) f ≡ Some k → ⊥) → times_in (nd p) k ≡ 0
  no_times p none_holds = rw (not_held field_a, not_held field_b, not_held field_c)
    where
      not_held : (f : Field) → holds k (child (nd p) f) ≡ false
      not_held f = go (holds k (child (nd p) f)) refl
        where
          go : (b : Bool) → holds k (child (nd p) f) ≡ b → b ≡ false
          go true e = absurd (none_holds f (holds_true k (child (nd p) f) e))
          go false e = refl

  nothing_above : (n : ℕ) → k ≤ n → ((p : ℕ) → k ≤ p → p < n → times_in (nd p) k ≡ 0) → times_below nd n k ≡ times_below nd k k
  unfolding times_below
  nothing_above zero h none = let e : k ≡ 0 = omega arith in rw e
  nothing_above (suc n) h none = go (ℕ_discrete k (suc n)) (nothing_above n)
    where
      go : Dec (k ≡ suc n) → (k ≤ n → ((p : ℕ) → k ≤ p → p < n → times_in (nd p) k ≡ 0) → times_below nd n k ≡ times_below nd k k) → times_below nd (suc n) k ≡ times_below nd k k
      go (yes e) below = rw e
      go (no e) below = omega (arith, below (omega arith) (λ p low high. none p low (omega arith)), none n (omega arith) (omega arith))

-- Both counts find the same node.
pub misplaced_as_below : (words : List ℕ) (n : ℕ) → ((k : ℕ) → k < n → fits words n k ≡ true) → first_from (misplaced (node_at words) n) n 0 ≡ first_from (misplaced_below (node_at words)) n 0
misplaced_as_below words n fitting =
    first_same n 0 λ k low high. ap (λ times. not (eqb k 0) && not (eqb times 1)) (all_below k (omega arith))
  where
    above : (k p : ℕ) → k ≤ p → p < n → (f : Field) → child (node_at words p) f ≡ Some k → ⊥
    above k p at_least below f e =
        let low = (kids_of_fitting_in_range n p words (fitting p below) (record { stands = e })).0 in
        omega arith

    all_below : (k : ℕ) → k ≤ n → times_below (node_at words) n k ≡ times_below (node_at words) k k
    all_below k h = nothing_above (node_at words) k n h λ p at_least below. no_times (node_at words) k p (above k p at_least below)
