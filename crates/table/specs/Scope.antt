-- What the names of a table mean. A name is bound by the nearest enclosing lambda, let or rec of that name. A let binds in its body
-- only, a rec in its body.
use Rattle.std.specs.Prelude.{ℕ, Bool, true, false, cond, List, [], ◌∷◌, eqb, Option, None, Some}
use Rattle.language.specs.Expression.{Name}
use Rattle.table.specs.Node.{Node, Nodes, constant_node, name_node, application_node, if_node, lambda_node, let_node, rec_node, Field, field_a, field_b, field_c}
use Rattle.table.specs.Walk.{climb}

-- Does the node bind a name in the child in that field?
abbrev pub binds_in : Node → Field → Bool
binds_in (constant_node k) f = false
binds_in (name_node x) f = false
binds_in (application_node l r) f = false
binds_in (if_node e₀ e₁ e₂) f = false
binds_in (lambda_node x e) field_a = false
binds_in (lambda_node x e) field_b = true
binds_in (lambda_node x e) field_c = false
binds_in (let_node x e₁ e₂) field_a = false
binds_in (let_node x e₁ e₂) field_b = false
binds_in (let_node x e₁ e₂) field_c = true
binds_in (rec_node x e) field_a = false
binds_in (rec_node x e) field_b = true
binds_in (rec_node x e) field_c = false

-- The scope of a child from the scope of its parent.
abbrev pub enter : Nodes → ℕ → Field → List ℕ → List ℕ
enter nd p f outer = cond (binds_in (nd p) f) (p ∷ outer) outer

-- The nodes whose binding holds at node k, nearest first.
abbrev pub scope : Nodes → ℕ → List ℕ
scope nd k = climb [] (enter nd) nd k

abbrev pub is_named : Name → Node → Bool
is_named x (constant_node k) = false
is_named x (name_node y) = false
is_named x (application_node l r) = false
is_named x (if_node e₀ e₁ e₂) = false
is_named x (lambda_node y e) = eqb y x
is_named x (let_node y e₁ e₂) = eqb y x
is_named x (rec_node y e) = eqb y x

-- The first of some binder nodes that binds x.
unfoldable pub first_named : Nodes → Name → List ℕ → Option ℕ
first_named nd x [] = None
first_named nd x (p ∷ ps) = cond (is_named x (nd p)) (Some p) (first_named nd x ps)

abbrev pub name_of : Node → Option Name
name_of (constant_node k) = None
name_of (name_node x) = Some x
name_of (application_node l r) = None
name_of (if_node e₀ e₁ e₂) = None
name_of (lambda_node x e) = None
name_of (let_node x e₁ e₂) = None
name_of (rec_node x e) = None

abbrev pub binder_for : Nodes → ℕ → Option Name → Option ℕ
binder_for nd k None = None
binder_for nd k (Some x) = first_named nd x (scope nd k)

-- The binder of the name node k.
abbrev pub binder_of : Nodes → ℕ → Option ℕ
binder_of nd k = binder_for nd k (name_of (nd k))
