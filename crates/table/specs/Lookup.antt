-- The walk in search of a binder, one node at a time.
use Prim.Native.Nat.{ℕ, zero, suc, ◌*◌, ◌-◌, ◌/◌, ◌≤◌, ◌<◌}
use Rattle.std.proofs.Math.Path.{◌≡◌, refl, ap}
use Rattle.std.proofs.Common.{sym, ◌∙◌}
use Rattle.std.specs.Prelude.{Bool, cond, ◌&&◌, Option, None, Some}
use Rattle.std.proofs.Math.Bool.{true, false}
use mathlib.Core.List.{List, [], ◌∷◌}
use native.Mathlib.Omega.{arith}
use Rattle.language.specs.Expression.{Name}
use Rattle.table.specs.Node.{Nodes, Field, node_at}
use Rattle.table.specs.Walk.{field_holding, climb_from, at_parent}
use Rattle.table.specs.Scope.{binds_in, enter, is_named, first_named}
use Rattle.table.specs.Reading.{node_from, met_as, met_in, met, walked_as, walked, found_below}
use Rattle.table.specs.declared.binders.Met.{Met}
use Rattle.table.specs.declared.binders.Met.TheVariants.{Elsewhere, Above, Binding}

module _ (nd : Nodes) (x : Name) where
  -- What the walk from k finds, by how it meets node p.
  abbrev pub onwards : Met → ℕ → ℕ → Option ℕ
  onwards Elsewhere k p = found_below nd x k p
  onwards Above k p = found_below nd x p p
  onwards Binding k p = Some p

  pub found_nothing : (k : ℕ) → found_below nd x k 0 ≡ None
  unfolding climb_from first_named
  found_nothing k = refl

  entered : (binds : Bool) (named : Bool) (k p : ℕ) → is_named x (nd p) ≡ named →
      first_named nd x (cond binds (p ∷ climb_from [] (enter nd) nd p p) (climb_from [] (enter nd) nd p p)) ≡ onwards (met_as (binds && named)) k p
  unfolding first_named
  entered false named k p e = refl
  entered true true k p e = rw e
  entered true false k p e = rw e

  found_next : (k p : ℕ) → found_below nd x k (suc p) ≡ onwards (met (nd p) x k) k p
  unfolding climb_from first_named
  found_next k p = go (field_holding k (nd p))
    where
      go : (f : Option Field) → first_named nd x (at_parent f (climb_from [] (enter nd) nd k p) (λ f. enter nd p f (climb_from [] (enter nd) nd p p))) ≡ onwards (met_in f x (nd p)) k p
      go None = refl
      go (Some f) = entered (binds_in (nd p) f) (is_named x (nd p)) k p refl

  -- The same, from p down to p - 1, as a loop goes.
  pub found_down : (k p : ℕ) → 0 < p → (m : Met) → met (nd (p - 1)) x k ≡ m → found_below nd x k p ≡ onwards m k (p - 1)
  found_down k p h m e =
      let down : p ≡ suc (p - 1) = omega arith in
      ap (found_below nd x k) down ∙ found_next k (p - 1) ∙ ap (λ m. onwards m k (p - 1)) e

  -- A binder has a smaller number than what it binds.
  pub found_below_lem : (p k : ℕ) {b : ℕ} → found_below nd x k p ≡ Some b → b < p
  unfolding climb_from first_named
  found_below_lem zero k e = absurd (let z : ◌≡◌ {A = ℕ} 0 1 = cc in omega arith)
  found_below_lem (suc p) k {b} e = go (met (nd p) x k) (sym (found_next k p) ∙ e) (λ j h. found_below_lem p j h)
    where
      go : (m : Met) → onwards m k p ≡ Some b → ((j : ℕ) → found_below nd x j p ≡ Some b → b < p) → b < suc p
      go Elsewhere h rest = omega (arith, rest k h)
      go Above h rest = omega (arith, rest p h)
      go Binding h rest =
          let same : p ≡ b = cc in
          omega arith

-- ---- The loop of the walk

-- The loop goes by the numbers of words, four for each node: before word i, what is left to find is the whole answer.
pub record Walking (words : List ℕ) (x : Name) (k current i : ℕ) : Type 0 where
  pub within : i ≤ 4 * k
  pub whole : i ≡ 4 * (i / 4)
  pub same : found_below (node_at words) x current (i / 4) ≡ found_below (node_at words) x k k

module _ {words : List ℕ} {x : Name} {k : ℕ} where
  pub walk_starts : Walking words x k k (4 * k)
  walk_starts = record { within = omega arith; whole = omega arith; same = ap (found_below (node_at words) x k) (omega arith) }

  module _ {current i : ℕ} (w : Walking words x k current i) where
    pub walk_ends : i ≤ 0 → found_below (node_at words) x k k ≡ None
    walk_ends h =
        let none_left : i / 4 ≡ 0 = omega arith in
        sym w.same ∙ ap (found_below (node_at words) x current) none_left ∙ found_nothing (node_at words) x current

    -- One node further down.
    module _ (left : 0 < i) where
      as_node : node_from words (i - 4) ≡ node_at words (i / 4 - 1)
      unfolding node_at
      as_node =
          let is : i - 4 ≡ 4 * (i / 4 - 1) = omega (arith, w.whole) in
          ap (node_from words) is

      down : (m : Met) → met (node_from words (i - 4)) x current ≡ m → onwards (node_at words) x m current ((i - 4) / 4) ≡ found_below (node_at words) x k k
      down m e =
          let next : (i - 4) / 4 ≡ i / 4 - 1 = omega arith in
          let some_left : 0 < i / 4 = omega (arith, w.whole) in
          rw next (sym (found_down (node_at words) x current (i / 4) some_left m (rw as_node at e)) ∙ w.same)

      pub walk_goes_on : {r : Option ℕ} {next : ℕ} → r ≡ walked (node_from words (i - 4)) x current ((i - 4) / 4) → r ≡ Some next → Walking words x k next (i - 4)
      walk_goes_on {r} {next} is e =
          record { within = omega (arith, w.within); whole = omega (arith, w.whole); same = go (met (node_from words (i - 4)) x current) refl (sym is ∙ e) }
        where
          go : (m : Met) → met (node_from words (i - 4)) x current ≡ m → walked_as m current ((i - 4) / 4) ≡ Some next →
              found_below (node_at words) x next ((i - 4) / 4) ≡ found_below (node_at words) x k k
          go Elsewhere is e = let same : next ≡ current = cc in rw same (down Elsewhere is)
          go Above is e = let same : next ≡ (i - 4) / 4 = cc in ap (λ j. found_below (node_at words) x j ((i - 4) / 4)) same ∙ down Above is
          go Binding is e = absurd (let z : ◌≡◌ {A = ℕ} 0 1 = cc in omega arith)

      pub walk_finds : {r : Option ℕ} → r ≡ walked (node_from words (i - 4)) x current ((i - 4) / 4) → r ≡ None → found_below (node_at words) x k k ≡ Some ((i - 4) / 4)
      walk_finds is e = go (met (node_from words (i - 4)) x current) refl (sym is ∙ e)
        where
          go : (m : Met) → met (node_from words (i - 4)) x current ≡ m → walked_as m current ((i - 4) / 4) ≡ None → found_below (node_at words) x k k ≡ Some ((i - 4) / 4)
          go Elsewhere is e = absurd (let z : ◌≡◌ {A = ℕ} 0 1 = cc in omega arith)
          go Above is e = absurd (let z : ◌≡◌ {A = ℕ} 0 1 = cc in omega arith)
          go Binding is e = sym (down Binding is)
