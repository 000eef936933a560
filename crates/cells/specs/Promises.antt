-- What is proved of type cells, in one place.
use Rattle.std.specs.Prelude.{ℕ, ◌≡◌, ◌↔◌, List}
use Rattle.language.specs.Ty.{Subst, MoreGeneral}
use Rattle.cells.specs.Cells.{Store, Sat, Grounds}
use Rattle.cells.specs.Layout.{store_of}
use Rattle.cells.specs.Interface.{Started}
use Rattle.cells.specs.Grounded as Grounded
use Rattle.cells.specs.Grounded.{LinksFall, Leans}
use Rattle.cells.specs.Starting as Starting
use Rattle.cells.specs.Starting.{Constants}

-- ---- Stores

-- A store in which every cell evaluates has the evaluation as a most general satisfying valuation.
grounded_satisfies : {γ : Subst} {σ : Store} → Grounds γ σ → Sat γ σ
grounded_satisfies = Grounded.grounded_satisfies

grounded_most_general : {γ : Subst} {σ : Store} → Grounds γ σ → {ρ : Subst} → Sat ρ σ → MoreGeneral γ ρ
grounded_most_general = Grounded.grounded_most_general

-- A store in which some cells lean on one another without end has no satisfying valuation.
ungrounded_has_none : {ρ : Subst} {σ : Store} {U : ℕ → Type 0} → LinksFall σ → ((i : ℕ) → U i → Leans σ U i) → Sat ρ σ → {i : ℕ} → U i → ⊥
ungrounded_has_none = Grounded.ungrounded_has_none

-- ---- New cells

-- Every word of new cells is determined.
started_once : {before a b : List ℕ} → Started before a → Started before b → a ≡ b
started_once = Starting.started_once

-- New cells demand the four constants, and nothing else.
started_constants : {before after : List ℕ} → Started before after → (ρ : Subst) → Sat ρ (store_of after) ↔ Constants ρ
started_constants = Starting.started_constants
