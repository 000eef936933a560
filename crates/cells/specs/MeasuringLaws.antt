-- The words of a cell's type, taken from a room part by part.
use Rattle.std.specs.Prelude.{ℕ, suc, ◌+◌, ◌-◌, ◌≤◌, ◌<◌, ◌≡◌, refl, ◌≢◌, List, Option, Some, None, IfSome}
use Rattle.std.proofs.Common.{arith}
use Rattle.language.specs.Ty.{Ty, ◌⇒◌}
use Rattle.language.specs.Unification.{size}
use Rattle.cells.specs.Cells.{Ev}
use Rattle.cells.specs.Layout.{cell_at, cells_in, store_of, Sound}
use Rattle.cells.specs.StoreLaws.{parts_inside}
use Rattle.cells.specs.Spelling.{size_positive}
use Rattle.cells.specs.Writing.{Root, Leaves, Measured, LeafCell}
use Rattle.cells.specs.RootTypes.{parts, leaf_type, leaf_size}
use Rattle.cells.specs.declared.TypeCell.{TypeCell}
use Rattle.cells.specs.declared.TypeCell.TheVariants.{Arrow}

pub measured_none : (cells : List ℕ) (i : ℕ) {room : ℕ} → room ≡ 0 → Measured cells i room None
measured_none cells i none = record { no_more = tt; takes = λ τ d. omega (arith, size_positive τ) }

module _ {cells : List ℕ} {i r room : ℕ} (some : room ≢ 0) (root : Root cells i r) where
  pub measured_leaf : LeafCell cells r → Measured cells i room (Some (room - 1))
  measured_leaf l = record {
    no_more = omega arith;
    takes = λ τ d.
        let one = leaf_size (leaf_type {x = cell_at cells r} refl l (root.same τ d)) in
        omega arith;
  }

  module _ {x : TypeCell} {left_part right_part : ℕ} (at_root : x ≡ cell_at cells r) (arrow : x ≡ Arrow left_part right_part) where
    -- The left part has no room,
    pub measured_stops : Measured cells left_part (room - 1) None → Measured cells i room None
    unfolding size
    measured_stops first = record {
      no_more = tt;
      takes = λ τ d.
          let (t₁, t₂, d₁, d₂, is) = parts root at_root arrow τ d in
          rw is (omega (arith, first.takes t₁ d₁));
    }

    -- or the right part has what it leaves.
    measured_arrow : {rest : ℕ} {left : Option ℕ} → Measured cells left_part (room - 1) (Some rest) → Measured cells right_part rest left → Measured cells i room left
    unfolding size
    measured_arrow {rest} {left} first second = record { no_more = less left second.no_more; takes = λ τ d. taken τ (parts root at_root arrow τ d) }
      where
        less : (left : Option ℕ) → IfSome left (λ l. l ≤ rest) → IfSome left (λ l. l ≤ room)
        less (Some l) h = omega (arith, first.no_more)
        less None h = tt

        taken : (τ : Ty) → (t₁ t₂ : Ty) × Ev (store_of cells) left_part t₁ × Ev (store_of cells) right_part t₂ × (τ ≡ t₁ ⇒ t₂) → Leaves room (size τ) left
        taken τ (t₁, t₂, d₁, d₂, is) = rw is (both left (first.takes t₁ d₁) (second.takes t₂ d₂))
          where
            both : (left : Option ℕ) → size t₁ + rest ≡ room - 1 → Leaves rest (size t₂) left → Leaves room (suc (size t₁ + size t₂)) left
            both (Some l) h h' = omega arith
            both None h h' = omega arith

-- What the current cell's type leaves of the room is what cell i₀'s leaves of the room at first.
pub record MeasuresOn (cells : List ℕ) (i₀ room₀ i room : ℕ) : Type 0 where
  pub inside : i < cells_in cells
  pub no_more : room ≤ room₀
  pub goes_on : {left : Option ℕ} → Measured cells i room left → Measured cells i₀ room₀ left

pub measures_at_first : {cells : List ℕ} {i : ℕ} (room : ℕ) → i < cells_in cells → MeasuresOn cells i room i room
measures_at_first room inside = record { inside = inside; no_more = omega arith; goes_on = λ m. m }

pub measures_right : {cells : List ℕ} {i₀ room₀ i room r rest left_part right_part : ℕ} {x : TypeCell} → MeasuresOn cells i₀ room₀ i room → room ≢ 0 → Sound cells → Root cells i r →
    x ≡ cell_at cells r → x ≡ Arrow left_part right_part → Measured cells left_part (room - 1) (Some rest) → MeasuresOn cells i₀ room₀ right_part rest
measures_right {r = r} m some sound root at_root arrow first = record {
  inside = (parts_inside sound r at_root arrow).1;
  no_more = omega (arith, m.no_more, first.no_more);
  goes_on = λ second. m.goes_on (measured_arrow some root at_root arrow first second);
}
