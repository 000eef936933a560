-- The nodes at which a run can get stuck: "the application or if node concerned".
use Rattle.std.specs.Prelude.{ℕ}
use Rattle.table.specs.Node.{Node, application_node, if_node}

pub data ApplicationOrIf : Node → Type 0 where
  an_application : {l r : ℕ} → ApplicationOrIf (application_node l r)
  an_if : {e₀ e₁ e₂ : ℕ} → ApplicationOrIf (if_node e₀ e₁ e₂)
