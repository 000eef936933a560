-- A base type or an arrow is said of a cell, by way of its root.
use Rattle.std.specs.Prelude.{ℕ, ◌≤◌, ◌<◌, ◌≡◌, refl, ◌≢◌, List, Some, Result, Ok, Err}
use Rattle.std.proofs.Common.{sym, ◌∙◌, ap, subst, arith}
use Rattle.language.specs.Ty.{◌⇒◌, Subst}
use Rattle.cells.specs.Solving.{Rooted, SayReady, Alike, PartsOf, PartsInside, PartsEqual, AllEqual, PairsInside}
use Rattle.cells.specs.Outcomes.{outcome_for, outcome_after}
use Rattle.cells.specs.Layout.{words_at, cell_in, as_words, cell_at, pair_at, store_of, cells_in, Sound}
use Rattle.cells.specs.Interface.{Sayable, Outcome}
use Rattle.cells.specs.Cells.{Fits, Sat}
use Rattle.cells.specs.CellSteps.{Put, fits_at, fits_equal, free_written, tag, clash_said}
use Rattle.cells.specs.StoreLaws.{says, tag_of, says_tag, cell_back, words_allowed, store_put, sayable_anywhere, sound_put, store_beside, sound_beside, above_one, parts_inside}
use Rattle.cells.specs.Puts.{CellPut, PairPut}
use Rattle.cells.specs.declared.Clash.{Clash}
use Rattle.cells.specs.declared.TypeCell.{TypeCell}
use Rattle.cells.specs.declared.TypeCell.TheVariants.{Free, Link, UnitType, BoolType, IntType, Arrow}
use Rattle.cells.specs.declared.memory.Pair.{Pair}
use Rattle.cells.specs.declared.memory.Words.{Words}
use Rattle.cells.specs.declared.solve.Parts.{Parts}

-- What is said of a cell is said of its root.
pub said_of_root : {before mem after : List ℕ} {i r : ℕ} {out : Result (Unit {0}) Clash} (c : TypeCell) → Rooted before mem i r →
    Outcome mem after (λ ρ. Fits ρ r c) out → Outcome before after (λ ρ. Fits ρ i c) out
said_of_root c found = outcome_after found.way.same_length (λ ρ. (
  λ (h, f). let h' = (found.way.keeps ρ).0 h in (h', fits_equal ρ c (sym (found.way.equal ρ h')) f),
  λ (h, f). ((found.way.keeps ρ).1 h, fits_equal ρ c (found.way.equal ρ h) f),
))

pub root_ready : {before mem : List ℕ} {i r : ℕ} {c : TypeCell} → Rooted before mem i r → Sayable (cells_in before) c → SayReady mem r c
root_ready found sayable = record { sound = found.way.sound; root = found.root; sayable = rw found.way.same_length sayable }

-- The words of a base type or of an arrow.
abbrev Known : Words → Type 0
Known w = (1 < w.tag) × (w.tag ≤ 5)

sayable_known : (n : ℕ) (c : TypeCell) → Sayable n c → Known (as_words c)
sayable_known n Free h = absurd h
sayable_known n (Link j) h = absurd h
sayable_known n UnitType h = (omega arith, omega arith)
sayable_known n BoolType h = (omega arith, omega arith)
sayable_known n IntType h = (omega arith, omega arith)
sayable_known n (Arrow l r) h = (omega arith, omega arith)

module _ {mem : List ℕ} {r : ℕ} {c : TypeCell} {x w : Words} (ready : SayReady mem r c) (x_is : x ≡ words_at mem r) (w_is : w ≡ as_words c) where
  x_at : cell_in x ≡ cell_at mem r
  x_at = ap cell_in x_is

  w_says : cell_in w ≡ c
  w_says = ap cell_in w_is ∙ cell_back c

  pub said_of_free : {u : Unit {0}} {after : List ℕ} → x.tag ≡ 0 → CellPut mem after r w → Outcome mem after (λ ρ. Fits ρ r c) (Ok u)
  said_of_free {after = after} e p = record {
    same_length = p.same_length;
    says = record { sound = sound_put p ready.sound (rw w_is (words_allowed c (sayable_anywhere _ r c ready.sayable))); keeps = λ ρ. let (to, from) = free_written {ρ = ρ} (says mem r x_at (rw e refl)) (subst (Put (store_of mem) (store_of after) r) w_says (store_put p)) in (from, to) };
  }

  x_known : x.tag ≤ 5
  x_known = rw x_is (ready.sound.allowed r).tag_known

  w_known : Known w
  w_known = rw w_is (sayable_known _ c ready.sayable)

  x_built : x.tag ≢ 0 → 1 < x.tag
  x_built n = above_one n (rw (← (tag_of x x_known)) (rw x_at ready.root.no_link))

  pub said_alike : x.tag ≢ 0 → x.tag ≡ w.tag → Alike x w
  said_alike n e = record { same_tag = e; built = x_built n; tag_known = x_known }

  pub said_otherwise : {e : Clash} → x.tag ≢ 0 → x.tag ≢ w.tag → Outcome mem mem (λ ρ. Fits ρ r c) (Err e)
  said_otherwise n d =
      let x_says : tag (store_of mem r) ≡ x.tag = rw x_is (says_tag ready.sound r) in
      let c_tag : tag c ≡ w.tag = ap tag (sym w_says) ∙ tag_of w w_known.1 in
      record { same_length = refl; says = λ ρ. clash_said r c (rw x_says (x_built n)) (rw c_tag w_known.0) (λ e. d (sym x_says ∙ e ∙ c_tag)) }

  pub said_again : {u : Unit {0}} → cell_in x ≡ cell_in w → Outcome mem mem (λ ρ. Fits ρ r c) (Ok u)
  said_again e = record { same_length = refl; says = record { sound = ready.sound; keeps = λ ρ. (λ (h, f). h, λ h. (h, fits_at h (says mem r x_at (e ∙ w_says)))) } }

  -- Arrow meets arrow.
  module _ {p : Parts} (found : PartsOf (cell_in x) (cell_in w) (Some p)) where
    c_says : c ≡ Arrow p.left.right p.right.right
    c_says = sym w_says ∙ found.1

    pub arrows_ready : Sound mem × PartsInside mem p
    arrows_ready =
        let (x_left, x_right) = parts_inside ready.sound r x_at found.0 in
        let (c_left, c_right) = subst (Sayable (cells_in mem)) c_says ready.sayable in
        (ready.sound, (x_left, c_left, x_right, c_right))

    pub said_of_arrow : {after : List ℕ} {out : Result (Unit {0}) Clash} → Outcome mem after (PartsEqual p) out → Outcome mem after (λ ρ. Fits ρ r c) out
    said_of_arrow = outcome_for (λ ρ h. (
      λ f. let arrow : ρ r ≡ ρ p.left.right ⇒ ρ p.right.right = subst (Fits ρ r) c_says f in let is = x_says ρ h in ((cc), (cc)),
      λ (left, right). let is = x_says ρ h in let arrow : ρ r ≡ ρ p.left.right ⇒ ρ p.right.right = cc in subst (Fits ρ r) (sym c_says) arrow,
    ))
      where
        x_says : (ρ : Subst) → Sat ρ (store_of mem) → ρ r ≡ ρ p.left.left ⇒ ρ p.right.left
        x_says ρ h = fits_at h (says mem r x_at found.0)

-- The right parts of two arrows are put as a pending pair, and the left parts are next.
module _ {mem put : List ℕ} {p : Parts} (sound : Sound mem) (inside : PartsInside mem p) (beside : PairPut mem put 0 p.right) where
  pub parts_ready : Sound put × (p.left.left < cells_in put) × (p.left.right < cells_in put) × PairsInside put 1 × (1 ≤ 1)
  parts_ready =
      let newest : ((pair_at put 0).left < cells_in put) × ((pair_at put 0).right < cells_in put) = subst (λ (y : Pair). (y.left < cells_in put) × (y.right < cells_in put)) (sym beside.there) (rw beside.same_length (inside.2, inside.3)) in
      (sound_beside sound beside, rw beside.same_length inside.0, rw beside.same_length inside.1, record { at = λ k below. let first : k ≡ 0 = omega arith in rw first newest }, omega arith)

  pub parts_equal : {after : List ℕ} {out : Result (Unit {0}) Clash} → Outcome put after (AllEqual put p.left.left p.left.right 1) out → Outcome mem after (PartsEqual p) out
  parts_equal = outcome_after beside.same_length (λ ρ. (
    λ (h, (left, right)). (rw (store_beside beside) h, (left, record { at = λ k below. let first : k ≡ 0 = omega arith in rw first (subst (λ (y : Pair). ρ y.left ≡ ρ y.right) (sym beside.there) right) })),
    λ (h, (left, q)). (rw (store_beside beside) at h, (left, subst (λ (y : Pair). ρ y.left ≡ ρ y.right) beside.there (q.at 0 (omega arith)))),
  ))
