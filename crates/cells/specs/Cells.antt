-- Stores of type cells. Each cell is an unknown type with at most one equation for it, which says nothing, that it is another cell's, that it
-- is a base type, or that it is an arrow of two cells' types. A store stands for the valuations that satisfy them all.
use Rattle.std.specs.Prelude.{ℕ, ◌≡◌}
use Rattle.language.specs.Ty.{Ty, unit, bool, int, ◌⇒◌, var, Subst}
use Rattle.cells.specs.declared.TypeCell.{TypeCell}
use Rattle.cells.specs.declared.TypeCell.TheVariants.{Free, Link, UnitType, BoolType, IntType, Arrow}

-- ---- Stores

abbrev pub Store : Type 0
Store = ℕ → TypeCell

-- ---- Valuations

-- A valuation is a substitution: cell i has type ρ i. What c says is true of ρ i:
abbrev pub Fits : Subst → ℕ → TypeCell → Type 0
Fits ρ i Free = Unit
Fits ρ i (Link j) = ρ i ≡ ρ j
Fits ρ i UnitType = ρ i ≡ unit
Fits ρ i BoolType = ρ i ≡ bool
Fits ρ i IntType = ρ i ≡ int
Fits ρ i (Arrow l r) = ρ i ≡ ρ l ⇒ ρ r

-- ρ satisfies σ.
pub record Sat (ρ : Subst) (σ : Store) : Type 0 where
  pub at : (i : ℕ) → Fits ρ i (σ i)

-- ---- Evaluation

-- Cell i evaluates to t: its links and arrows end in base cells and in free cells, which stand for themselves.
pub data Ev (σ : Store) : ℕ → Ty → Type 0 where
  ev_free : {i : ℕ} → σ i ≡ Free → Ev σ i (var i)
  ev_link : {i j : ℕ} {t : Ty} → σ i ≡ Link j → Ev σ j t → Ev σ i t
  ev_unit : {i : ℕ} → σ i ≡ UnitType → Ev σ i unit
  ev_bool : {i : ℕ} → σ i ≡ BoolType → Ev σ i bool
  ev_int : {i : ℕ} → σ i ≡ IntType → Ev σ i int
  ev_arrow : {i l r : ℕ} {t₁ t₂ : Ty} → σ i ≡ Arrow l r → Ev σ l t₁ → Ev σ r t₂ → Ev σ i (t₁ ⇒ t₂)

-- Every cell i evaluates, to γ i.
pub record Grounds (γ : Subst) (σ : Store) : Type 0 where
  pub at : (i : ℕ) → Ev σ i (γ i)
