-- The one walk from a node up to the root. A parent has a smaller number than its child, so the walk goes once through the numbers
-- below the node: where p has the current node as a child, it takes a step there, and p becomes the current node.
use Rattle.std.specs.Prelude.{ℕ, zero, suc, Bool, false, cond, eqb, Option, None, Some}
use Rattle.table.specs.Node.{Node, Nodes, Field, field_a, field_b, field_c, child}

abbrev pub holds : ℕ → Option ℕ → Bool
holds k None = false
holds k (Some c) = eqb c k

-- The field of a node that holds k as a child.
abbrev pub field_holding : ℕ → Node → Option Field
field_holding k node =
    cond (holds k (child node field_a)) (Some field_a)
    (cond (holds k (child node field_b)) (Some field_b)
    (cond (holds k (child node field_c)) (Some field_c) None))

module _ {A : Type 0} where
  abbrev pub at_parent : Option Field → A → (Field → A) → A
  at_parent None off step = off
  at_parent (Some f) off step = step f

  -- What a walk from node k carries: `top` at the root, `step p f up` at the child in field f of p, where the walk from p carries `up`.
  unfoldable pub climb_from : A → (ℕ → Field → A → A) → Nodes → ℕ → ℕ → A
  climb_from top step nd k zero = top
  climb_from top step nd k (suc p) =
      let off = climb_from top step nd k p in
      let up = climb_from top step nd p p in
      at_parent (field_holding k (nd p)) off (λ f. step p f up)

  abbrev pub climb : A → (ℕ → Field → A → A) → Nodes → ℕ → A
  climb top step nd k = climb_from top step nd k k
