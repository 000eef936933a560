-- The expression that a table stands for: a tree with names.
use Rattle.std.specs.Prelude.{ℕ, zero, suc, List}
use Rattle.language.specs.Expression.{Exp, constant, name, app, if_then_else, lambda, let_in, rec, unit_element}
use Rattle.table.specs.Node.{Node, Nodes, constant_node, name_node, application_node, if_node, lambda_node, let_node, rec_node, node_at, count_of}

-- A node over the expressions at its children.
abbrev pub shape : (ℕ → Exp) → Node → Exp
shape at (constant_node c) = constant c
shape at (name_node x) = name x
shape at (application_node l r) = app (at l) (at r)
shape at (if_node e₀ e₁ e₂) = if_then_else (at e₀) (at e₁) (at e₂)
shape at (lambda_node x e) = lambda x (at e)
shape at (let_node x e₁ e₂) = let_in x (at e₁) (at e₂)
shape at (rec_node x e) = rec x (at e)

-- Children have greater numbers, so as many levels as there are nodes are enough.
unfoldable pub exp_from : Nodes → ℕ → ℕ → Exp
exp_from nd zero k = constant unit_element
exp_from nd (suc levels) k = shape (exp_from nd levels) (nd k)

-- The expression at node k of n.
abbrev pub exp_at : Nodes → ℕ → ℕ → Exp
exp_at nd n k = exp_from nd n k

-- The root's.
abbrev pub exp_of : List ℕ → Exp
exp_of words = exp_at (node_at words) (count_of words) 0
