-- What the cell evaluates to that links lead to: an arrow of its two parts, a base type or its own variable.
use Rattle.std.specs.Prelude.{ℕ, ◌<◌, ◌≡◌, refl, ◌≢◌, List}
use Rattle.std.proofs.Common.{sym, ◌∙◌, ap, subst, arith}
use Rattle.language.specs.Ty.{Ty, unit, bool, int, ◌⇒◌, var}
use Rattle.language.specs.Unification.{size}
use Rattle.cells.specs.Cells.{Ev}
use Rattle.cells.specs.CellSteps.{tag}
use Rattle.cells.specs.Grounded.{EvAt, ev_at}
use Rattle.cells.specs.Layout.{cell_at, cells_in, store_of}
use Rattle.cells.specs.StoreLaws.{says}
use Rattle.cells.specs.Writing.{Root, LeafCell}
use Rattle.cells.specs.declared.TypeCell.{TypeCell}
use Rattle.cells.specs.declared.TypeCell.TheVariants.{Free, Link, UnitType, BoolType, IntType, Arrow}

module _ {cells : List ℕ} {i r : ℕ} {x : TypeCell} (root : Root cells i r) (at_root : x ≡ cell_at cells r) where
  pub parts : {left right : ℕ} → x ≡ Arrow left right → (τ : Ty) → Ev (store_of cells) i τ → (t₁ t₂ : Ty) × Ev (store_of cells) left t₁ × Ev (store_of cells) right t₂ × (τ ≡ t₁ ⇒ t₂)
  parts arrow τ d = ev_at (says cells r at_root arrow) (root.same τ d)

  pub root_is_leaf : i < cells_in cells → tag x ≢ 5 → LeafCell cells r
  root_is_leaf inside no_arrow = record { inside = omega (arith, root.below); no_link = root.no_link; no_arrow = rw at_root at no_arrow }

-- The type of a cell that is neither a link nor an arrow.
pub data LeafType (r : ℕ) : TypeCell → Ty → Type 0 where
  is_variable : LeafType r Free (var r)
  is_unit : LeafType r UnitType unit
  is_bool : LeafType r BoolType bool
  is_int : LeafType r IntType int

pub leaf_type : {cells : List ℕ} {r : ℕ} {τ : Ty} {x : TypeCell} → x ≡ cell_at cells r → LeafCell cells r → Ev (store_of cells) r τ → LeafType r x τ
leaf_type {cells} {r} {τ} {x} e l d = go x refl
  where
    own : {c : TypeCell} → x ≡ c → EvAt (store_of cells) r c τ
    own is = ev_at (says cells r e is) d

    is_at : {c : TypeCell} → x ≡ c → tag c ≡ tag (cell_at cells r)
    is_at is = ap tag (sym is ∙ e)

    go : (c : TypeCell) → x ≡ c → LeafType r c τ
    go Free is = subst (LeafType r Free) (sym (own is)) is_variable
    go (Link j) is = absurd (l.no_link (sym (is_at is)))
    go UnitType is = subst (LeafType r UnitType) (sym (own is)) is_unit
    go BoolType is = subst (LeafType r BoolType) (sym (own is)) is_bool
    go IntType is = subst (LeafType r IntType) (sym (own is)) is_int
    go (Arrow left right) is = absurd (l.no_arrow (sym (is_at is)))

pub leaf_size : {r : ℕ} {c : TypeCell} {τ : Ty} → LeafType r c τ → size τ ≡ 1
unfolding size
leaf_size is_variable = refl
leaf_size is_unit = refl
leaf_size is_bool = refl
leaf_size is_int = refl
