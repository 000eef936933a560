-- How often a child stands in a node, and how many children it has, by its kind.
use Rattle.std.specs.Prelude.{ℕ, ◌+◌, ◌≡◌, ◌⊎◌, eqb}
use Rattle.std.proofs.Math.Path.{refl}
use Rattle.std.proofs.Common.{inl, inr, arith}
use Rattle.table.specs.Node.{Node, node_of}
use Rattle.table.specs.NodeLaws.{Leaf, a_constant, a_name, leaf}
use Rattle.language.specs.Once.{once}
use Rattle.acceptance.specs.Refusals.{times_in}
use Rattle.acceptance.specs.Counting.{children_in}

pub leaf_holds_nothing : {node : Node} → Leaf node → (k : ℕ) → times_in node k ≡ 0
leaf_holds_nothing a_constant k = refl
leaf_holds_nothing a_name k = refl

pub leaf_has_no_child : {node : Node} → Leaf node → children_in node ≡ 0
leaf_has_no_child a_constant = refl
leaf_has_no_child a_name = refl

module _ (kind a b c : ℕ) where
  -- Kinds 5 to 9 have children, all others have none.
  pub others_hold_nothing : (k : ℕ) → (kind ≡ 5 → ⊥) → (kind ≡ 6 → ⊥) → (kind ≡ 7 → ⊥) → (kind ≡ 8 → ⊥) → (kind ≡ 9 → ⊥) → times_in (node_of kind a b c) k ≡ 0
  others_hold_nothing k not5 not6 not7 not8 not9 = leaf_holds_nothing (leaf kind a b c not5 not6 not7 not8 not9) k

  pub others_have_no_child : (kind ≡ 5 → ⊥) → (kind ≡ 6 → ⊥) → (kind ≡ 7 → ⊥) → (kind ≡ 8 → ⊥) → (kind ≡ 9 → ⊥) → children_in (node_of kind a b c) ≡ 0
  others_have_no_child not5 not6 not7 not8 not9 = leaf_has_no_child (leaf kind a b c not5 not6 not7 not8 not9)

  pub held_in_application : (k : ℕ) → kind ≡ 5 → times_in (node_of kind a b c) k ≡ once (eqb a k) + once (eqb b k)
  unfolding node_of
  held_in_application k e = rw e (omega arith)

  pub held_in_if : (k : ℕ) → kind ≡ 6 → times_in (node_of kind a b c) k ≡ once (eqb a k) + once (eqb b k) + once (eqb c k)
  unfolding node_of
  held_in_if k e = rw e (omega arith)

  pub held_in_let : (k : ℕ) → kind ≡ 8 → times_in (node_of kind a b c) k ≡ once (eqb b k) + once (eqb c k)
  unfolding node_of
  held_in_let k e = rw e (omega arith)

  -- A lambda and a rec have one child, in field b.
  pub one_child : (k : ℕ) → (kind ≡ 7) ⊎ (kind ≡ 9) → times_in (node_of kind a b c) k ≡ once (eqb b k)
  unfolding node_of
  one_child k (inl e) = rw e (omega arith)
  one_child k (inr e) = rw e (omega arith)

  pub children_of_two : (kind ≡ 5) ⊎ (kind ≡ 8) → children_in (node_of kind a b c) ≡ 2
  unfolding node_of
  children_of_two (inl e) = rw e refl
  children_of_two (inr e) = rw e refl

  pub children_of_three : kind ≡ 6 → children_in (node_of kind a b c) ≡ 3
  unfolding node_of
  children_of_three e = rw e refl

  pub child_of_one : (kind ≡ 7) ⊎ (kind ≡ 9) → children_in (node_of kind a b c) ≡ 1
  unfolding node_of
  child_of_one (inl e) = rw e refl
  child_of_one (inr e) = rw e refl

-- By the kind, as the code tells kinds apart.
pub ruleset held_by_kind = (held_in_application, held_in_if, held_in_let, one_child, others_hold_nothing)

pub ruleset children_by_kind = (children_of_two, children_of_three, child_of_one, others_have_no_child)
