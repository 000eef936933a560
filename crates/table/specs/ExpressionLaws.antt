-- The law of the expression at a node, which nothing else looks behind.
use Prim.Native.Nat.{ℕ, zero, suc, ◌+◌, ◌≤◌, ◌<◌}
use Rattle.std.specs.Prelude.{◌≡◌, refl, Some}
use Rattle.std.proofs.Common.{ap, arith}
use Rattle.language.specs.Expression.{Exp, lambda, rec}
use Rattle.table.specs.Node.{Node, Nodes, Field, field_a, field_b, field_c, child, Kid, constant_node, name_node, application_node, if_node, lambda_node, let_node, rec_node}
use Rattle.table.specs.Tree.{Descending}
use Rattle.table.specs.ExpressionOf.{shape, exp_from, exp_at}

-- A node's shape depends on the expressions at its children only.
shape_of_children : {at at' : ℕ → Exp} (node : Node) → ((f : Field) (c : ℕ) → child node f ≡ Some c → at c ≡ at' c) → shape at node ≡ shape at' node
shape_of_children (constant_node c) h = refl
shape_of_children (name_node x) h = refl
shape_of_children (application_node l r) h = cc (h field_a l refl, h field_b r refl)
shape_of_children (if_node e₀ e₁ e₂) h = cc (h field_a e₀ refl, h field_b e₁ refl, h field_c e₂ refl)
shape_of_children (lambda_node x e) h = ap (lambda x) (h field_b e refl)
shape_of_children (let_node x e₁ e₂) h = cc (h field_b e₁ refl, h field_c e₂ refl)
shape_of_children (rec_node x e) h = ap (rec x) (h field_b e refl)

module _ {nd : Nodes} {n : ℕ} (d : Descending nd n) where
  -- As many levels as there are nodes from k on are enough.
  enough : (m m' k : ℕ) → n ≤ k + m → n ≤ k + m' → k < n → exp_from nd m k ≡ exp_from nd m' k
  unfolding exp_from
  enough zero m' k h h' below = absurd (omega arith)
  enough (suc m) zero k h h' below = absurd (omega arith)
  enough (suc m) (suc m') k h h' below =
      shape_of_children (nd k) λ f c stands.
      let kid : Kid nd k f c = record { stands = stands } in
      let more : k < c = d.greater below kid in
      enough m m' c (omega arith) (omega arith) (d.inside below kid)

  pub exp_is : (k : ℕ) → k < n → exp_at nd n k ≡ shape (exp_at nd n) (nd k)
  unfolding exp_from
  exp_is k below = enough n (suc n) k (omega arith) (omega arith) below
