-- A state is in scope if each of its environments is, entry by entry, the scope of its node: the node that is evaluated in it, the lambda
-- whose closure holds it, or the node whose frame keeps it.
use Rattle.std.specs.Prelude.{ℕ, ◌<◌, ◌≡◌, Bool, List, [], ◌∷◌, ℤ}
use Rattle.language.specs.Expression.{Name, Operator}
use Rattle.table.specs.Node.{Node, Nodes, application_node, if_node, lambda_node, let_node, rec_node}
use Rattle.table.specs.Scope.{scope}
use Rattle.semantics.specs.Machine.{Value, unit_value, boolean_value, integer_value, operator_value, operator_with, operator_with_other, closure, Chain, empty, bound, rec_bound, Frame, left_part, holding, if_frame, let_frame, State, evaluate, return}

-- The node binds the name to a value: it is a lambda or a let of that name.
pub data BindsValue : Node → Name → Type 0 where
  lambda_binds : {x : Name} {e : ℕ} → BindsValue (lambda_node x e) x
  let_binds : {x : Name} {e₁ e₂ : ℕ} → BindsValue (let_node x e₁ e₂) x

mutual
  -- The chain has an entry for each of the binder nodes, in their order and by their names, and each entry is in scope itself.
  pub data Follows (nd : Nodes) (n : ℕ) : Chain → List ℕ → Type 0 where
    no_entry : Follows nd n empty []
    value_entry : {x : Name} {v : Value} {η : Chain} {p : ℕ} {ps : List ℕ} → BindsValue (nd p) x → ValueInScope nd n v → Follows nd n η ps → Follows nd n (bound x v η) (p ∷ ps)
    rec_entry : {x : Name} {k e : ℕ} {η : Chain} {ps : List ℕ} → EnvironmentOf nd n k (rec_node x e) η → ps ≡ scope nd k → Follows nd n (rec_bound x k η) (k ∷ ps)

  -- A closure holds a lambda's name and body with an environment of the lambda; no other value holds an environment.
  pub data ValueInScope (nd : Nodes) (n : ℕ) : Value → Type 0 where
    unit_in_scope : ValueInScope nd n unit_value
    boolean_in_scope : {b : Bool} → ValueInScope nd n (boolean_value b)
    integer_in_scope : {m : ℤ} → ValueInScope nd n (integer_value m)
    operator_in_scope : {o : Operator} → ValueInScope nd n (operator_value o)
    operator_with_in_scope : {o : Operator} {m : ℤ} → ValueInScope nd n (operator_with o m)
    operator_with_other_in_scope : {o : Operator} → ValueInScope nd n (operator_with_other o)
    closure_in_scope : {p : ℕ} {x : Name} {b : ℕ} {η : Chain} → EnvironmentOf nd n p (lambda_node x b) η → ValueInScope nd n (closure x b η)

  -- Node p of the n nodes is `node`, and the chain follows its scope.
  pub data EnvironmentOf (nd : Nodes) (n : ℕ) : ℕ → Node → Chain → Type 0 where
    environment : {p : ℕ} {node : Node} {η : Chain} → p < n → nd p ≡ node → Follows nd n η (scope nd p) → EnvironmentOf nd n p node η

module _ {nd : Nodes} {n p : ℕ} {node : Node} {η : Chain} where
  abbrev pub inside : EnvironmentOf nd n p node η → p < n
  inside (environment below is h) = below

  abbrev pub node_is : EnvironmentOf nd n p node η → nd p ≡ node
  node_is (environment below is h) = is

  abbrev pub follows : EnvironmentOf nd n p node η → Follows nd n η (scope nd p)
  follows (environment below is h) = h

-- A frame keeps children of a node of its kind, with an environment of that node or a value in scope.
pub data FrameInScope (nd : Nodes) (n : ℕ) : Frame → Type 0 where
  left_part_in_scope : {k l r : ℕ} {η : Chain} → EnvironmentOf nd n k (application_node l r) η → FrameInScope nd n (left_part k r η)
  holding_in_scope : {k l r : ℕ} {v : Value} → k < n → nd k ≡ application_node l r → ValueInScope nd n v → FrameInScope nd n (holding k v)
  if_frame_in_scope : {k e₀ e₁ e₂ : ℕ} {η : Chain} → EnvironmentOf nd n k (if_node e₀ e₁ e₂) η → FrameInScope nd n (if_frame k e₁ e₂ η)
  let_frame_in_scope : {p : ℕ} {x : Name} {e₁ e₂ : ℕ} {η : Chain} → EnvironmentOf nd n p (let_node x e₁ e₂) η → FrameInScope nd n (let_frame x e₂ η)

-- Each of the frames is in scope.
pub data FramesInScope (nd : Nodes) (n : ℕ) : List Frame → Type 0 where
  no_frame : FramesInScope nd n []
  one_more : {frame : Frame} {frames : List Frame} → FrameInScope nd n frame → FramesInScope nd n frames → FramesInScope nd n (frame ∷ frames)

-- A node is evaluated in an environment of its own, or a value in scope is returned, and the frames are in scope.
pub data InScope (nd : Nodes) (n : ℕ) : State → Type 0 where
  evaluate_in_scope : {k : ℕ} {node : Node} {η : Chain} {frames : List Frame} → EnvironmentOf nd n k node η → FramesInScope nd n frames → InScope nd n (evaluate k η frames)
  return_in_scope : {v : Value} {frames : List Frame} → ValueInScope nd n v → FramesInScope nd n frames → InScope nd n (return v frames)
