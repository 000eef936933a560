-- Eliminating a variable leaves equations of fewer variables: "α kommt in τ nicht vor, also auch nicht mehr im neuen Argument E[τ/α]"
-- (lecture notes, section 10.4). The variables are counted by a list that holds them all.
use Rattle.std.specs.Prelude.{ℕ, suc, ◌≡◌, refl, Bool, true, false, cond, length, eqb}
use Rattle.std.proofs.Common.{sym, ◌∙◌, ap, ⊎_elim}
use mathlib.Core.List.Memᴰ
use mathlib.Core.List.{List, [], ◌∷◌, ◌++◌, Memᴰ}
use Rattle.std.proofs.lemmas.Bool.{eqb-false}
use Rattle.language.specs.Ty.{Ty, unit, bool, int, ◌⇒◌, var, Subst, apply}
use Rattle.language.specs.Unification.{Equation, ◌≐◌, vars, vars_all, occurs, single, apply_all}
use Rattle.language.proofs.MostGeneral.{or_false}

-- Every variable of a type, or of a list of equations, has the property.
abbrev pub Every : (ℕ → Type 0) → Ty → Type 0
Every P unit = Unit
Every P bool = Unit
Every P int = Unit
Every P (τ₁ ⇒ τ₂) = Every P τ₁ × Every P τ₂
Every P (var α) = P α

abbrev pub EveryIn : (ℕ → Type 0) → List Equation → Type 0
EveryIn P [] = Unit
EveryIn P ((τ₁ ≐ τ₂) ∷ E) = Every P τ₁ × Every P τ₂ × EveryIn P E

every_vars : (P : ℕ → Type 0) (τ : Ty) → ((α : ℕ) → Memᴰ α (vars τ) → P α) → Every P τ
unfolding vars
every_vars P unit f = tt
every_vars P bool f = tt
every_vars P int f = tt
every_vars P (τ₁ ⇒ τ₂) f =
    (every_vars P τ₁ (λ α m. f α (Memᴰ.append_left (vars τ₂) m)), every_vars P τ₂ (λ α m. f α (Memᴰ.append_right (vars τ₁) m)))
every_vars P (var α) f = f α (Memᴰ.head refl)

every_vars_in : (P : ℕ → Type 0) (E : List Equation) → ((α : ℕ) → Memᴰ α (vars_all E) → P α) → EveryIn P E
unfolding vars_all
every_vars_in P [] f = tt
every_vars_in P ((τ₁ ≐ τ₂) ∷ E) f = (
  every_vars P τ₁ (λ α m. f α (Memᴰ.append_left (vars τ₂ ++ vars_all E) m)),
  every_vars P τ₂ (λ α m. f α (Memᴰ.append_right (vars τ₁) (Memᴰ.append_left (vars_all E) m))),
  every_vars_in P E (λ α m. f α (Memᴰ.append_right (vars τ₁) (Memᴰ.append_right (vars τ₂) m))),
)

module _ (P Q : ℕ → Type 0) (s : Subst) (f : (α : ℕ) → P α → Every Q (s α)) where
  every_apply : (τ : Ty) → Every P τ → Every Q (apply s τ)
  unfolding apply
  every_apply unit h = tt
  every_apply bool h = tt
  every_apply int h = tt
  every_apply (τ₁ ⇒ τ₂) h = (every_apply τ₁ h.0, every_apply τ₂ h.1)
  every_apply (var α) h = f α h

  every_apply_in : (E : List Equation) → EveryIn P E → EveryIn Q (apply_all s E)
  unfolding apply_all
  every_apply_in [] h = tt
  every_apply_in ((τ₁ ≐ τ₂) ∷ E) h = (every_apply τ₁ h.0, every_apply τ₂ h.1, every_apply_in E h.2)

module _ (P Q : ℕ → Type 0) (α : ℕ) (f : (β : ℕ) → P β → eqb α β ≡ false → Q β) where
  every_other : (τ : Ty) → occurs α τ ≡ false → Every P τ → Every Q τ
  unfolding occurs
  every_other unit e h = tt
  every_other bool e h = tt
  every_other int e h = tt
  every_other (τ₁ ⇒ τ₂) e h =
      let (e₁, e₂) = or_false (occurs α τ₁) (occurs α τ₂) e in
      (every_other τ₁ e₁ h.0, every_other τ₂ e₂ h.1)
  every_other (var β) e h = f β h e

  every_eliminated : (τ : Ty) (E : List Equation) → occurs α τ ≡ false → Every P τ → EveryIn P E → EveryIn Q (apply_all (single α τ) E)
  every_eliminated τ E e h = every_apply_in P Q (single α τ) (λ β p. go β p (eqb α β) refl) E
    where
      go : (β : ℕ) → P β → (b : Bool) → eqb α β ≡ b → Every Q (cond b τ (var β))
      go β p true q = every_other τ e h
      go β p false q = f β p q

-- A list without one of its entries holds all the others.
without : {α : ℕ} {L : List ℕ} → Memᴰ α L → (L' : List ℕ) × (length L ≡ suc (length L')) × ((β : ℕ) → Memᴰ β L → eqb α β ≡ false → Memᴰ β L')
without {α} (Memᴰ.head {x} {xs} e) =
    (xs, refl, λ β m q. ⊎_elim (λ e'. absurd (eqb-false α β q (e ∙ sym e'))) (λ m'. m') (Memᴰ.cases_cons m))
without (Memᴰ.tail {x} m) =
    let (L', e, f) = without m in
    (x ∷ L', ap suc e, λ β m' q. ⊎_elim (λ e'. Memᴰ.head e') (λ m''. Memᴰ.tail (f β m'' q)) (Memᴰ.cases_cons m'))

-- L holds all variables of E.
abbrev pub Holds : List ℕ → List Equation → Type 0
Holds L E = EveryIn (λ α. Memᴰ α L) E

pub all_held : (E : List Equation) → Holds (vars_all E) E
all_held E = every_vars_in (λ α. Memᴰ α (vars_all E)) E (λ α m. m)

-- The variables of E[τ/α] are held by a list that is shorter by one.
pub fewer_held : {L : List ℕ} (α : ℕ) (τ : Ty) (E : List Equation) → occurs α τ ≡ false → Holds L ((var α ≐ τ) ∷ E) → (L' : List ℕ) × (length L ≡ suc (length L')) × Holds L' (apply_all (single α τ) E)
fewer_held {L} α τ E e h =
    let (L', l, f) = without h.0 in
    (L', l, every_eliminated (λ β. Memᴰ β L) (λ β. Memᴰ β L') α f τ E e h.1 h.2)
