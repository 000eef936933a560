-- If every cell of a store evaluates, the evaluation is a most general satisfying valuation. If links fall and some cells can only be
-- evaluated by way of one another, there is no satisfying valuation.
use Rattle.std.specs.Prelude.{ℕ, zero, suc, ◌<◌, ◌≡◌, refl}
use Rattle.std.proofs.Common.{sym, ◌∙◌, ap, ap₂, subst, arith}
use Rattle.std.proofs.Math.Path.{fun_ext}
use Rattle.language.specs.Ty.{Ty, unit, bool, int, ◌⇒◌, var, Subst, apply, compose, MoreGeneral}
use Rattle.language.specs.Unification.{size}
use Rattle.cells.specs.Cells.{Store, Fits, Sat, Ev, ev_free, ev_link, ev_unit, ev_bool, ev_int, ev_arrow, Grounds}
use Rattle.cells.specs.CellSteps.{fits_at}
use Rattle.cells.specs.declared.TypeCell.{TypeCell}
use Rattle.cells.specs.declared.TypeCell.TheVariants.{Free, Link, UnitType, BoolType, IntType, Arrow}

-- ---- Evaluation

-- What it is that cell i evaluates to t, if it holds c.
abbrev pub EvAt : Store → ℕ → TypeCell → Ty → Type 0
EvAt σ i Free t = t ≡ var i
EvAt σ i (Link j) t = Ev σ j t
EvAt σ i UnitType t = t ≡ unit
EvAt σ i BoolType t = t ≡ bool
EvAt σ i IntType t = t ≡ int
EvAt σ i (Arrow l r) t = (t₁ t₂ : Ty) × Ev σ l t₁ × Ev σ r t₂ × (t ≡ t₁ ⇒ t₂)

ev_own : {σ : Store} {i : ℕ} {t : Ty} → Ev σ i t → EvAt σ i (σ i) t
ev_own (ev_free e) = rw e refl
ev_own (ev_link e d) = rw e d
ev_own (ev_unit e) = rw e refl
ev_own (ev_bool e) = rw e refl
ev_own (ev_int e) = rw e refl
ev_own (ev_arrow {t₁ = t₁} {t₂ = t₂} e d₁ d₂) = rw e (t₁, t₂, d₁, d₂, refl)

pub ev_at : {σ : Store} {i : ℕ} {c : TypeCell} {t : Ty} → σ i ≡ c → Ev σ i t → EvAt σ i c t
ev_at {σ} {i} {t} e d = subst (λ (c : TypeCell). EvAt σ i c t) e (ev_own d)

pub ev_unique : {σ : Store} {i : ℕ} {t t' : Ty} → Ev σ i t → Ev σ i t' → t ≡ t'
ev_unique (ev_free e) d = sym (ev_at e d)
ev_unique (ev_link e d) d' = ev_unique d (ev_at e d')
ev_unique (ev_unit e) d = sym (ev_at e d)
ev_unique (ev_bool e) d = sym (ev_at e d)
ev_unique (ev_int e) d = sym (ev_at e d)
ev_unique (ev_arrow e d₁ d₂) d =
    let (t₁, t₂, d₁', d₂', q) = ev_at e d in
    ap₂ ◌⇒◌ (ev_unique d₁ d₁') (ev_unique d₂ d₂') ∙ sym q

-- Every satisfying valuation is the evaluation followed by that valuation itself.
pub ev_most_general : {ρ : Subst} {σ : Store} {i : ℕ} {t : Ty} → Sat ρ σ → Ev σ i t → ρ i ≡ apply ρ t
unfolding apply
ev_most_general s (ev_free e) = refl
ev_most_general s (ev_link e d) = fits_at s e ∙ ev_most_general s d
ev_most_general s (ev_unit e) = fits_at s e
ev_most_general s (ev_bool e) = fits_at s e
ev_most_general s (ev_int e) = fits_at s e
ev_most_general s (ev_arrow e d₁ d₂) = fits_at s e ∙ ap₂ ◌⇒◌ (ev_most_general s d₁) (ev_most_general s d₂)

-- ---- Every cell evaluates

module _ {γ : Subst} {σ : Store} (g : Grounds γ σ) where
  pub grounded_satisfies : Sat γ σ
  grounded_satisfies = record { at = λ i. fits i (σ i) (ev_own (g.at i)) }
    where
      fits : (i : ℕ) (c : TypeCell) → EvAt σ i c (γ i) → Fits γ i c
      fits i Free v = tt
      fits i (Link j) v = ev_unique v (g.at j)
      fits i UnitType v = v
      fits i BoolType v = v
      fits i IntType v = v
      fits i (Arrow l r) (t₁, t₂, d₁, d₂, q) = q ∙ ap₂ ◌⇒◌ (ev_unique d₁ (g.at l)) (ev_unique d₂ (g.at r))

  pub grounded_then_any : {ρ : Subst} → Sat ρ σ → compose γ ρ ≡ ρ
  grounded_then_any s = fun_ext (λ i. sym (ev_most_general s (g.at i)))

  pub grounded_most_general : {ρ : Subst} → Sat ρ σ → MoreGeneral γ ρ
  grounded_most_general {ρ} s = record { after = ρ; is = grounded_then_any s }

-- ---- Some cell does not

-- Links lead down.
pub record LinksFall (σ : Store) : Type 0 where
  pub falls : {i j : ℕ} → σ i ≡ Link j → j < i

-- Cell i cannot be evaluated without a cell of U.
pub data Leans (σ : Store) (U : ℕ → Type 0) (i : ℕ) : Type 0 where
  on_link : {j : ℕ} → σ i ≡ Link j → U j → Leans σ U i
  on_left : {l r : ℕ} → σ i ≡ Arrow l r → U l → Leans σ U i
  on_right : {l r : ℕ} → σ i ≡ Arrow l r → U r → Leans σ U i

-- The size of a type falls at an arrow, and the number of the cell at a link.
pub ungrounded_has_none : {ρ : Subst} {σ : Store} {U : ℕ → Type 0} → LinksFall σ → ((i : ℕ) → U i → Leans σ U i) → Sat ρ σ → {i : ℕ} → U i → ⊥
unfolding size
ungrounded_has_none {ρ} {σ} {U} down leans s {i} u = none (suc (size (ρ i))) (suc i) i (omega arith) (omega arith) u
  where
    step : {i n m : ℕ} → size (ρ i) < suc n → i < suc m → ((j : ℕ) → size (ρ j) < suc n → j < m → U j → ⊥) →
        ((j : ℕ) → size (ρ j) < n → U j → ⊥) → Leans σ U i → ⊥
    step h k lower smaller (on_link {j = j} e v) = lower j (rw (fits_at s e) at h) (omega (arith, down.falls e)) v
    step h k lower smaller (on_left {l = l} e v) = smaller l (omega (arith, ap size (fits_at s e))) v
    step h k lower smaller (on_right {r = r} e v) = smaller r (omega (arith, ap size (fits_at s e))) v

    none : (n m i : ℕ) → size (ρ i) < n → i < m → U i → ⊥
    none zero m i h k u = omega arith
    none (suc n) zero i h k u = omega arith
    none (suc n) (suc m) i h k u = step h k (λ j. none (suc n) m j) (λ j f. none n (suc j) j f (omega arith)) (leans i u)
