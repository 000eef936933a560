-- What the five functions of `cells` ask and do: `start`, `say`, `join`, `grounded` and `write_type`. All is said of valuations, which give
-- each cell a type: of those that satisfy the cells' words before and after.
use Rattle.std.specs.Prelude.{ℕ, ◌≤◌, ◌<◌, ◌≡◌, Bool, true, false, ◌↔◌, List, [], ◌∷◌, ◌++◌, length, drop, get_or, Option, Some, None, Result, Ok, Err}
use Rattle.language.specs.Ty.{Ty, Subst}
use Rattle.language.specs.WrittenForm.{words_of}
use Rattle.cells.specs.Cells.{Store, Sat, Ev, Grounds}
use Rattle.cells.specs.Layout.{words_at, as_words, pair_at, no_pair, store_of, Sound, SameCells}
use Rattle.cells.specs.declared.TypeCell.{TypeCell}
use Rattle.cells.specs.declared.TypeCell.TheVariants.{Free, Link, UnitType, BoolType, IntType, Arrow}
use Rattle.cells.specs.declared.Clash.{Clash}

-- ---- start

-- bool, int, int → int and int → bool, as cells 0 to 3.
abbrev pub constants : List TypeCell
constants = BoolType ∷ IntType ∷ Arrow 1 1 ∷ Arrow 1 0 ∷ []

-- All others are free.
abbrev pub new_cell : ℕ → TypeCell
new_cell i = get_or constants i Free

-- Every word is a new one: those of the cells and those beside them.
pub record Started (before after : List ℕ) : Type 0 where
  pub same_length : length after ≡ length before
  pub cells : (i : ℕ) → words_at after i ≡ as_words (new_cell i)
  pub pairs : (i : ℕ) → pair_at after i ≡ no_pair

-- ---- say and join

-- What may be said of a type: that it is a base type, or an arrow of two of the n cells.
abbrev pub Sayable : ℕ → TypeCell → Type 0
Sayable n Free = ⊥
Sayable n (Link j) = ⊥
Sayable n UnitType = Unit
Sayable n BoolType = Unit
Sayable n IntType = Unit
Sayable n (Arrow l r) = (l < n) × (r < n)

-- The valuations that satisfied the cells and meet a demand are those that satisfy the cells now.
pub record DemandMet (before after : List ℕ) (demand : Subst → Type 0) : Type 0 where
  pub sound : Sound after
  pub keeps : (ρ : Subst) → (Sat ρ (store_of before) × demand ρ) ↔ Sat ρ (store_of after)

-- A demand is met, or no valuation that satisfies the cells meets it.
abbrev pub MetOrNone : List ℕ → List ℕ → (Subst → Type 0) → Result (Unit {0}) Clash → Type 0
MetOrNone before after demand (Ok _) = DemandMet before after demand
MetOrNone before after demand (Err _) = (ρ : Subst) → Sat ρ (store_of before) → ¬ demand ρ

pub record Outcome (before after : List ℕ) (demand : Subst → Type 0) (r : Result (Unit {0}) Clash) : Type 0 where
  pub same_length : length after ≡ length before
  pub says : MetOrNone before after demand r

-- ---- grounded

-- Every cell evaluates, or no valuation satisfies the store.
abbrev pub GroundedOrNone : Store → Bool → Type 0
GroundedOrNone σ true = (γ : Subst) × Grounds γ σ
GroundedOrNone σ false = (ρ : Subst) → ¬ Sat ρ σ

-- No number of a variable stands beside a cell.
pub record Unnumbered (mem : List ℕ) : Type 0 where
  pub sound : Sound mem
  pub none : (i : ℕ) → (pair_at mem i).right ≡ 0

-- The cells are as they were, and ready to be written.
pub record GroundTested (before after : List ℕ) (ok : Bool) : Type 0 where
  pub same : SameCells before after
  pub ready : Unnumbered after
  pub says : GroundedOrNone (store_of before) ok

-- ---- write_type

-- The answer to a type that is to stand at the beginning of a slice, and the slice's words before and after.
pub data TypeWritten (type before after : List ℕ) (r : Option ℕ) : Type 0 where
  -- It is written, and all later words are as they were.
  fits : length type ≤ length before → r ≡ Some (length type) → after ≡ type ++ drop (length type) before → TypeWritten type before after r
  -- It has more words than the slice, and none was written.
  over : length before < length type → r ≡ None → after ≡ before → TypeWritten type before after r

-- The same for the type that cell i evaluates to.
pub record CellWritten (cells : List ℕ) (i : ℕ) (before after : List ℕ) (r : Option ℕ) : Type 0 where
  pub is : (τ : Ty) → Ev (store_of cells) i τ → TypeWritten (words_of τ) before after r
