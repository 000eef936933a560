-- A node of a formula table as a value. Four words make a node: kind, a, b, c. Words enter here and in the refusals 1 and 2 only; all
-- other theory is over `Nodes`.
use Rattle.std.specs.Prelude.{ℕ, ◌+◌, ◌*◌, ◌/◌, List, [], ◌∷◌, ◌≡◌, eqb, length, get_or, Option, None, Some}
use Rattle.language.specs.Expression.{Name, Constant, unit_element, boolean, integer, operator}
use Rattle.language.specs.Numbers.{operator_at, signed}

-- ---- Nodes

-- Children are numbers of nodes.
pub data Node : Type 0 where
  constant_node : Constant → Node
  name_node : Name → Node
  application_node : ℕ → ℕ → Node
  if_node : ℕ → ℕ → ℕ → Node
  lambda_node : Name → ℕ → Node
  let_node : Name → ℕ → ℕ → Node
  rec_node : Name → ℕ → Node

abbrev pub Nodes : Type 0
Nodes = ℕ → Node

-- ---- Children

-- The three fields of a node.
pub data Field : Type 0 where
  field_a field_b field_c : Field

-- The child in a field, where there is one.
abbrev pub child : Node → Field → Option ℕ
child (constant_node k) f = None
child (name_node x) f = None
child (application_node l r) field_a = Some l
child (application_node l r) field_b = Some r
child (application_node l r) field_c = None
child (if_node e₀ e₁ e₂) field_a = Some e₀
child (if_node e₀ e₁ e₂) field_b = Some e₁
child (if_node e₀ e₁ e₂) field_c = Some e₂
child (lambda_node x e) field_a = None
child (lambda_node x e) field_b = Some e
child (lambda_node x e) field_c = None
child (let_node x e₁ e₂) field_a = None
child (let_node x e₁ e₂) field_b = Some e₁
child (let_node x e₁ e₂) field_c = Some e₂
child (rec_node x e) field_a = None
child (rec_node x e) field_b = Some e
child (rec_node x e) field_c = None

-- `Kid nd p f c`: node c stands in field f of node p.
pub record Kid (nd : Nodes) (p : ℕ) (f : Field) (c : ℕ) : Type 0 where
  pub stands : child (nd p) f ≡ Some c

-- ---- Words

-- Kinds 0 to 9, each on its fields.
abbrev pub kinds : List (ℕ → ℕ → ℕ → Node)
kinds =
    (λ a b c. constant_node unit_element) ∷
    (λ a b c. constant_node (boolean (eqb a 1))) ∷
    (λ a b c. constant_node (integer (signed a))) ∷
    (λ a b c. constant_node (operator (operator_at a))) ∷
    (λ a b c. name_node a) ∷
    (λ a b c. application_node a b) ∷
    (λ a b c. if_node a b c) ∷
    (λ a b c. lambda_node a b) ∷
    (λ a b c. let_node a b c) ∷
    (λ a b c. rec_node a b) ∷ []

-- An unknown kind, which code 2 refuses, reads as unit.
unfoldable pub node_of : ℕ → ℕ → ℕ → ℕ → Node
node_of kind a b c = get_or kinds kind (λ a b c. constant_node unit_element) a b c

-- A word past the end reads as 0, so a node past the end is unit.
abbrev pub word_at : List ℕ → ℕ → ℕ
word_at words i = get_or words i 0

unfoldable pub node_at : List ℕ → Nodes
node_at words k = node_of (word_at words (4 * k)) (word_at words (4 * k + 1)) (word_at words (4 * k + 2)) (word_at words (4 * k + 3))

-- How many nodes a table has.
abbrev pub count_of : List ℕ → ℕ
count_of words = length words / 4
