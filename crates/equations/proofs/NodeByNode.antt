-- A substitution solves the equations of a table exactly if it solves those of each node.
use Prim.Native.Nat.{ℕ, zero, suc, ◌<◌}
use Rattle.std.specs.Prelude.{◌≡◌}
use Rattle.std.proofs.Math.Decide.{ℕ_discrete}
use Rattle.std.proofs.Common.{arith}
use Rattle.language.specs.Ty.{Subst}
use Rattle.language.specs.Unification.{Solves, none_left}
use Rattle.language.proofs.MostGeneral.{solves_append, solves_split}
use Rattle.table.specs.Node.{Nodes}
use Rattle.equations.specs.Equations.{equations_at, equations_below}

module _ (nd : Nodes) (s : Subst) where
  pub solves_each : (n : ℕ) → Solves s (equations_below nd n) → (k : ℕ) → k < n → Solves s (equations_at nd k (nd k))
  unfolding equations_below
  solves_each zero h k below = absurd (omega arith)
  solves_each (suc n) h k below = let (before, last) = solves_split (equations_below nd n) _ h in go (ℕ_discrete n k) last (solves_each n before k)
    where
      go : Dec (n ≡ k) → Solves s (equations_at nd n (nd n)) → (k < n → Solves s (equations_at nd k (nd k))) → Solves s (equations_at nd k (nd k))
      go (yes e) last before = rw e at last
      go (no e) last before = before (omega arith)

  pub solves_below : (n : ℕ) → ((k : ℕ) → k < n → Solves s (equations_at nd k (nd k))) → Solves s (equations_below nd n)
  unfolding equations_below
  solves_below zero h = none_left
  solves_below (suc n) h = solves_append (solves_below n (λ k below. h k (omega arith))) (h n (omega arith))
