-- Code 2: the children of a node that fits its rule have numbers above the node's and below the node count.
use Rattle.std.specs.Prelude.{ℕ, zero, suc, ◌+◌, ◌*◌, ◌<◌, ◌≡◌, refl, Bool, false, ◌&&◌, List, [], ◌∷◌, ltb, get_or, Option, None, Some}
use Rattle.std.proofs.Math.Bool.{true}
use Rattle.std.proofs.Common.{arith}
use borrow.Author.Tests.{ltb-true}
use Rattle.language.specs.Expression.{unit_element}
use Rattle.table.specs.Node.{Node, constant_node, Field, field_a, field_b, field_c, child, Kid, kinds, node_of, node_at, word_at}
use Rattle.acceptance.specs.Refusals.{is_unused, is_name, is_child, rules, fits_rule, fits}

-- ---- The ten kinds at once

-- Two lists of one length, related in each place.
infixr 5 ◌then◌
data Each {A B : Type 0} (R : A → B → Type 0) : List A → List B → Type 0 where
  end : Each R [] []
  ◌then◌ : {a : A} {b : B} {xs : List A} {ys : List B} → R a b → Each R xs ys → Each R (a ∷ xs) (b ∷ ys)

get_d_each : {A B : Type 0} {R : A → B → Type 0} {xs : List A} {ys : List B} {a : A} {b : B} → Each R xs ys → R a b → (i : ℕ) → R (get_or xs i a) (get_or ys i b)
get_d_each end d i = d
get_d_each (r then rs) d zero = r
get_d_each (r then rs) d (suc i) = get_d_each rs d i

-- ---- What the rules keep

both_true : (a b : Bool) → (a && b) ≡ true → (a ≡ true) × (b ≡ true)
both_true true b h = (refl, h)
both_true false b h = absurd (let z : ◌≡◌ {A = ℕ} 0 1 = cc in omega arith)

all_true : (a b c : Bool) → (a && b && c) ≡ true → (a ≡ true) × (b ≡ true) × (c ≡ true)
all_true a b c h = let (ab, z) = both_true (a && b) c h in let (x, y) = both_true a b ab in (x, y, z)

module _ (n k : ℕ) where
  -- Of a field that may hold a child.
  abbrev fits_as_child : Option ℕ → Bool
  fits_as_child None = true
  fits_as_child (Some c) = is_child n k c

  abbrev ChildrenFit : Node → Type 0
  ChildrenFit node = (fits_as_child (child node field_a) ≡ true) × (fits_as_child (child node field_b) ≡ true) × (fits_as_child (child node field_c) ≡ true)

  -- A kind's rule makes the children of the kind's node fit.
  abbrev Keeps : (ℕ → ℕ → ℕ → Bool) → (ℕ → ℕ → ℕ → Node) → Type 0
  Keeps rule node = (a b c : ℕ) → rule a b c ≡ true → ChildrenFit (node a b c)

  all_keep : Each Keeps (rules n k) kinds
  all_keep =
      (λ a b c h. (refl, refl, refl)) then
      (λ a b c h. (refl, refl, refl)) then
      (λ a b c h. (refl, refl, refl)) then
      (λ a b c h. (refl, refl, refl)) then
      (λ a b c h. (refl, refl, refl)) then
      (λ a b c h. let (x, y, z) = all_true (is_child n k a) (is_child n k b) (is_unused c) h in (x, y, refl)) then
      (λ a b c h. let (x, y, z) = all_true (is_child n k a) (is_child n k b) (is_child n k c) h in (x, y, z)) then
      (λ a b c h. let (x, y, z) = all_true (is_name a) (is_child n k b) (is_unused c) h in (refl, y, refl)) then
      (λ a b c h. let (x, y, z) = all_true (is_name a) (is_child n k b) (is_child n k c) h in (refl, y, z)) then
      (λ a b c h. let (x, y, z) = all_true (is_name a) (is_child n k b) (is_unused c) h in (refl, y, refl)) then end

  -- An unknown kind reads as unit, which has no children.
  unknown_keeps : Keeps (λ a b c. false) (λ a b c. constant_node unit_element)
  unknown_keeps a b c h = (refl, refl, refl)

  pub kids_of_fitting_in_range : (words : List ℕ) {f : Field} {c : ℕ} → fits words n k ≡ true → Kid (node_at words) k f c → (k < c) × (c < n)
  unfolding fits_rule node_of node_at
  kids_of_fitting_in_range words {f} {c} h kid =
      let kept = get_d_each all_keep unknown_keeps (word_at words (4 * k)) (word_at words (4 * k + 1)) (word_at words (4 * k + 2)) (word_at words (4 * k + 3)) h in
      let (low, high) = both_true (ltb k c) (ltb c n) (rw kid.stands at (in_field f kept)) in
      (ltb-true k c low, ltb-true c n high)
    where
      in_field : (f : Field) → ChildrenFit (node_at words k) → fits_as_child (child (node_at words k) f) ≡ true
      in_field field_a h = h.0
      in_field field_b h = h.1
      in_field field_c h = h.2
