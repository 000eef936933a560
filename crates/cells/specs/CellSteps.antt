-- Every step of solving keeps the satisfying valuations exactly: those of the store before that make the step's two types equal are
-- those of the store after.
use Rattle.std.specs.Prelude.{ℕ, ◌<◌, ◌≡◌, refl, ◌≢◌, ◌↔◌}
use Rattle.std.proofs.Common.{sym, ◌∙◌, ap, subst, arith}
use Rattle.std.proofs.Math.Decide.{ℕ_discrete}
use Rattle.language.specs.Ty.{Ty, unit, bool, int, ◌⇒◌, var, Subst}
use Rattle.cells.specs.Cells.{Store, Fits, Sat}
use Rattle.cells.specs.declared.TypeCell.{TypeCell}
use Rattle.cells.specs.declared.TypeCell.TheVariants.{Free, Link, UnitType, BoolType, IntType, Arrow}

-- ---- Writes

-- A write: σ' has c in cell i, and is σ elsewhere.
pub record Put (σ σ' : Store) (i : ℕ) (c : TypeCell) : Type 0 where
  pub there : σ' i ≡ c
  pub others : (j : ℕ) → j ≢ i → σ' j ≡ σ j

pub fits_at : {ρ : Subst} {σ : Store} {i : ℕ} {c : TypeCell} → Sat ρ σ → σ i ≡ c → Fits ρ i c
fits_at {ρ} {i} s e = subst (Fits ρ i) e (s.at i)

-- A write of what is true keeps a valuation.
put_keeps : {ρ : Subst} {σ σ' : Store} {i : ℕ} {c : TypeCell} → Put σ σ' i c → Sat ρ σ → Fits ρ i c → Sat ρ σ'
put_keeps {ρ} {σ} {σ'} {i} {c} p s f = record { at = λ k. go k (ℕ_discrete k i) }
  where
    go : (k : ℕ) → Dec (k ≡ i) → Fits ρ k (σ' k)
    go k (yes e) = rw (e, p.there) f
    go k (no n) = rw (p.others k n) (s.at k)

-- A write is undone by writing what was there.
put_back : {ρ : Subst} {σ σ' : Store} {i : ℕ} {c c' : TypeCell} → σ i ≡ c → Put σ σ' i c' → Sat ρ σ' → Fits ρ i c → Sat ρ σ
put_back e p = put_keeps (record { there = e; others = λ j n. sym (p.others j n) })

-- What a write at i leaves as it was at j.
fits_beside : {ρ : Subst} {σ σ' : Store} {i j : ℕ} {c c' : TypeCell} → σ j ≡ c → i ≢ j → Put σ σ' i c' → Sat ρ σ' → Fits ρ j c
fits_beside {j} e n p s = fits_at s (p.others j (λ q. n (sym q)) ∙ e)

-- What is true of a type is true of its equals.
pub fits_equal : (ρ : Subst) {i j : ℕ} (c : TypeCell) → ρ i ≡ ρ j → Fits ρ j c → Fits ρ i c
fits_equal ρ Free e f = tt
fits_equal ρ (Link k) e f = e ∙ f
fits_equal ρ UnitType e f = e ∙ f
fits_equal ρ BoolType e f = e ∙ f
fits_equal ρ IntType e f = e ∙ f
fits_equal ρ (Arrow l r) e f = e ∙ f

-- ---- Steps

module _ {ρ : Subst} {σ σ' : Store} {i : ℕ} where
  pub free_written : {c : TypeCell} → σ i ≡ Free → Put σ σ' i c → Sat ρ σ' ↔ (Sat ρ σ × Fits ρ i c)
  free_written e p = (λ s. (put_back e p s tt, fits_at s p.there), λ (s, f). put_keeps p s f)

  module _ {j : ℕ} where
    -- Cells that say the same: equal base cells, above all.
    pub equal_linked : σ i ≡ σ j → i ≢ j → Put σ σ' i (Link j) → Sat ρ σ' ↔ (Sat ρ σ × (ρ i ≡ ρ j))
    equal_linked e n p = (
      λ s. let q : ρ i ≡ ρ j = fits_at s p.there in (put_back e p s (fits_equal ρ (σ j) q (fits_beside refl n p s)), q),
      λ (s, q). put_keeps p s q,
    )

    -- What j says is copied to a free cell i, and j is linked to it.
    pub copied_down : {σ'' : Store} → σ i ≡ Free → j ≢ i → Put σ σ' i (σ j) → Put σ' σ'' j (Link i) → (Sat ρ σ × (ρ i ≡ ρ j)) ↔ Sat ρ σ''
    copied_down {σ''} e n p p' = (
      λ (s, q). put_keeps p' (put_keeps p s (fits_equal ρ (σ j) q (s.at j))) (sym q),
      λ s.
          let q : ρ j ≡ ρ i = fits_at s p'.there in
          let f : Fits ρ i (σ j) = fits_beside p.there n p' s in
          let s' : Sat ρ σ' = put_back (p.others j n) p' s (fits_equal ρ (σ j) q f) in
          (put_back e p s' tt, sym q),
    )

    -- An arrow is linked to an arrow, and their parts are left to be made equal.
    pub arrow_linked : {l r l' r' : ℕ} → σ i ≡ Arrow l r → σ j ≡ Arrow l' r' → i ≢ j → Put σ σ' i (Link j) →
        (Sat ρ σ × (ρ i ≡ ρ j)) ↔ (Sat ρ σ' × (ρ l ≡ ρ l') × (ρ r ≡ ρ r'))
    arrow_linked {l} {r} {l'} {r'} e e' n p = (
      λ (s, q).
          let f : ρ i ≡ ρ l ⇒ ρ r = fits_at s e in
          let f' : ρ j ≡ ρ l' ⇒ ρ r' = fits_at s e' in
          (put_keeps p s q, (cc), (cc)),
      λ (s, ql, qr).
          let q : ρ i ≡ ρ j = fits_at s p.there in
          let f' : ρ j ≡ ρ l' ⇒ ρ r' = fits_beside e' n p s in
          let f : ρ i ≡ ρ l ⇒ ρ r = cc in
          (put_back e p s f, q),
    )

    pub path_shortened : {k : ℕ} → σ i ≡ Link j → σ j ≡ Link k → i ≢ j → Put σ σ' i (Link k) → Sat ρ σ ↔ Sat ρ σ'
    path_shortened e e' n p = (
      λ s. put_keeps p s (fits_at s e ∙ fits_at s e'),
      λ s. put_back e p s (fits_at s p.there ∙ sym (fits_beside e' n p s)),
    )

-- ---- Clashes

-- The place of a cell's constructor. Those past 1 fix the outermost constructor of the type.
abbrev pub tag : TypeCell → ℕ
tag Free = 0
tag (Link j) = 1
tag UnitType = 2
tag BoolType = 3
tag IntType = 4
tag (Arrow l r) = 5

pub not_link : (c : TypeCell) → ((j : ℕ) → c ≡ Link j → ⊥) → tag c ≢ 1
not_link Free n = omega arith
not_link (Link j) n = absurd (n j refl)
not_link UnitType n = omega arith
not_link BoolType n = omega arith
not_link IntType n = omega arith
not_link (Arrow l r) n = omega arith

pub not_arrow : (c : TypeCell) → ((l r : ℕ) → c ≡ Arrow l r → ⊥) → tag c ≢ 5
not_arrow Free n = omega arith
not_arrow (Link j) n = omega arith
not_arrow UnitType n = omega arith
not_arrow BoolType n = omega arith
not_arrow IntType n = omega arith
not_arrow (Arrow l r) n = absurd (n l r refl)

abbrev type_tag : Ty → ℕ
type_tag (var α) = 0
type_tag unit = 2
type_tag bool = 3
type_tag int = 4
type_tag (t₁ ⇒ t₂) = 5

fits_tag : (ρ : Subst) (i : ℕ) (c : TypeCell) → 1 < tag c → Fits ρ i c → type_tag (ρ i) ≡ tag c
fits_tag ρ i Free h f = absurd (omega arith)
fits_tag ρ i (Link j) h f = absurd (omega arith)
fits_tag ρ i UnitType h f = ap type_tag f
fits_tag ρ i BoolType h f = ap type_tag f
fits_tag ρ i IntType h f = ap type_tag f
fits_tag ρ i (Arrow l r) h f = ap type_tag f

-- A cell and something said of its type.
pub clash_said : {ρ : Subst} {σ : Store} (i : ℕ) (c : TypeCell) → 1 < tag (σ i) → 1 < tag c → tag (σ i) ≢ tag c → Sat ρ σ → Fits ρ i c → ⊥
clash_said {ρ} {σ} i c hi hc n s f = n (sym (fits_tag ρ i (σ i) hi (s.at i)) ∙ fits_tag ρ i c hc f)

-- Two cells.
pub clash : {ρ : Subst} {σ : Store} {i j : ℕ} → 1 < tag (σ i) → 1 < tag (σ j) → tag (σ i) ≢ tag (σ j) → Sat ρ σ → ρ i ≡ ρ j → ⊥
clash {ρ} {σ} {i} {j} hi hj n s e = clash_said i (σ j) hi hj n s (fits_equal ρ (σ j) e (s.at j))
