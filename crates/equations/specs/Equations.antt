-- The equations of a table: each node contributes those of its rule (lecture notes, section 10; formula sheet, section 6).
use Rattle.std.specs.Prelude.{ℕ, zero, suc, ◌+◌, ◌*◌, List, [], ◌∷◌, ◌++◌, Option, None, Some}
use Rattle.language.specs.Ty.{Ty, bool, ◌⇒◌, var}
use Rattle.language.specs.Typing.{type_of}
use Rattle.language.specs.Unification.{Equation, ◌≐◌}
use Rattle.table.specs.Node.{Node, Nodes, constant_node, name_node, application_node, if_node, lambda_node, let_node, rec_node}
use Rattle.table.specs.Scope.{binder_of}

-- ---- Unknowns

-- The number of the variable for the type of node k, and of the one for the type of the name that node k binds.
abbrev pub node_var : ℕ → ℕ
node_var k = 2 * k

abbrev pub name_var : ℕ → ℕ
name_var k = 2 * k + 1

abbrev pub type_at : ℕ → Ty
type_at k = var (node_var k)

abbrev pub type_bound_at : ℕ → Ty
type_bound_at k = var (name_var k)

-- ---- Equations

-- A name has the type of its binder. A name without a binder, which no checked table has, has no equation.
abbrev pub name_equations : ℕ → Option ℕ → List Equation
name_equations k None = []
name_equations k (Some b) = (type_at k ≐ type_bound_at b) ∷ []

-- (CONST), (ID), (APP), (COND), (ABSTR), (LET), (REC) of section 6.1, at node k.
abbrev pub equations_at : Nodes → ℕ → Node → List Equation
equations_at nd k (constant_node c) = (type_at k ≐ type_of c) ∷ []
equations_at nd k (name_node x) = name_equations k (binder_of nd k)
equations_at nd k (application_node l r) = (type_at l ≐ type_at r ⇒ type_at k) ∷ []
equations_at nd k (if_node e₀ e₁ e₂) = (type_at e₀ ≐ bool) ∷ (type_at k ≐ type_at e₁) ∷ (type_at k ≐ type_at e₂) ∷ []
equations_at nd k (lambda_node x e) = (type_at k ≐ type_bound_at k ⇒ type_at e) ∷ []
equations_at nd k (let_node x e₁ e₂) = (type_at k ≐ type_at e₂) ∷ (type_bound_at k ≐ type_at e₁) ∷ []
equations_at nd k (rec_node x e) = (type_at k ≐ type_bound_at k) ∷ (type_at k ≐ type_at e) ∷ []

-- Those of the nodes 0 to n - 1, in table order.
unfoldable pub equations_below : Nodes → ℕ → List Equation
equations_below nd zero = []
equations_below nd (suc k) = equations_below nd k ++ equations_at nd k (nd k)
