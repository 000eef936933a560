-- Typings can be specialised, hang on their environment by the free names alone, and survive the substitution of a closed expression
-- (lecture notes, Lemmas 7, 9 and 15).
use Rattle.std.specs.Prelude.{◌≡◌, refl, ◌≢◌, cond, eqb}
use Rattle.std.proofs.Common.{sym, ◌∙◌, ap, inl, inr, ⊎_elim, eq-eqb, ne_eqb}
use Rattle.std.proofs.Math.Decide.{ℕ_discrete}
use Rattle.language.specs.Expression.{Name, Operator, plus, minus, times, divide, modulo, less, greater, at_most, at_least, equal, Constant, unit_element}
use Rattle.language.specs.Expression.{boolean, integer, operator, Exp, constant, name, app, if_then_else, lambda, let_in, rec, Free, Closed}
use Rattle.language.specs.Substitution.{sub}
use Rattle.language.specs.Ty.{Ty, Subst, apply}
use Rattle.language.specs.Environment.{Env, empty, bind, Find, here, outside}
use Rattle.language.specs.Typing.{gives, type_of, Has, CONST, ID, APP, COND, LET, ABSTR', REC', apply_env}

-- ---- Specialisation

gives_has_no_variable : (s : Subst) (o : Operator) → apply s (gives o) ≡ gives o
unfolding apply
gives_has_no_variable s plus = refl
gives_has_no_variable s minus = refl
gives_has_no_variable s times = refl
gives_has_no_variable s divide = refl
gives_has_no_variable s modulo = refl
gives_has_no_variable s less = refl
gives_has_no_variable s greater = refl
gives_has_no_variable s at_most = refl
gives_has_no_variable s at_least = refl
gives_has_no_variable s equal = refl

pub constants_have_no_variable : (s : Subst) (c : Constant) → apply s (type_of c) ≡ type_of c
unfolding apply
constants_have_no_variable s unit_element = refl
constants_have_no_variable s (boolean b) = refl
constants_have_no_variable s (integer n) = refl
constants_have_no_variable s (operator o) = rw (gives_has_no_variable s o)

found_specialised : (s : Subst) {Γ Δ : Env Ty} {x : Name} {τ : Ty} → Find Γ x τ Δ → Find (apply_env s Γ) x (apply s τ) (apply_env s Δ)
unfolding apply_env
found_specialised s here = here
found_specialised s (outside ne f) = outside ne (found_specialised s f)

-- Lemma 15, of types without schemes
pub specialised : (s : Subst) {Γ : Env Ty} {e : Exp} {τ : Ty} → Has Γ e τ → Has (apply_env s Γ) e (apply s τ)
unfolding apply apply_env
specialised s (CONST {c = c} is) = CONST (sym (constants_have_no_variable s c) ∙ ap (apply s) is)
specialised s (ID found) = ID (found_specialised s found)
specialised s (APP d₁ d₂) = APP (specialised s d₁) (specialised s d₂)
specialised s (COND d₀ d₁ d₂) = COND (specialised s d₀) (specialised s d₁) (specialised s d₂)
specialised s (LET d₁ d₂) = LET (specialised s d₁) (specialised s d₂)
specialised s (ABSTR' d) = ABSTR' (specialised s d)
specialised s (REC' d) = REC' (specialised s d)

-- ---- Environments and free names

-- What Γ says of the names in P, Γ' says too.
pub record Agrees (P : Name → Type 0) (Γ Γ' : Env Ty) : Type 0 where
  pub on : (y : Name) (t : Ty) → P y → Has Γ (name y) t → Has Γ' (name y) t

agrees_inside : {P : Name → Type 0} {Γ Γ' : Env Ty} {x : Name} {σ : Ty} → Agrees (λ y. (y ≢ x) × P y) Γ Γ' → Agrees P (bind Γ x σ) (bind Γ' x σ)
agrees_inside {P} {Γ} {Γ'} {x} {σ} a = record { on = at }
  where
    once_more : {y : Name} {t : Ty} → y ≢ x → Has Γ' (name y) t → Has (bind Γ' x σ) (name y) t
    once_more ne (ID found) = ID (outside ne found)

    at : (y : Name) (t : Ty) → P y → Has (bind Γ x σ) (name y) t → Has (bind Γ' x σ) (name y) t
    at y t p (ID here) = ID here
    at y t p (ID (outside ne found)) = once_more ne (a.on y t (ne, p) (ID found))

agrees_on_fewer : {P Q : Name → Type 0} {Γ Γ' : Env Ty} → ((y : Name) → Q y → P y) → Agrees P Γ Γ' → Agrees Q Γ Γ'
agrees_on_fewer f a = record { on = λ y t q. a.on y t (f y q) }

-- Lemma 7(b)
pub weakened : {Γ Γ' : Env Ty} {e : Exp} {τ : Ty} → Agrees (λ y. Free y e) Γ Γ' → Has Γ e τ → Has Γ' e τ
weakened a (CONST is) = CONST is
weakened a (ID {x = x} {τ = τ} found) = a.on x τ refl (ID found)
weakened a (APP d₁ d₂) = APP (weakened (agrees_on_fewer (λ y. inl) a) d₁) (weakened (agrees_on_fewer (λ y. inr) a) d₂)
weakened a (COND d₀ d₁ d₂) =
    COND (weakened (agrees_on_fewer (λ y. inl) a) d₀) (weakened (agrees_on_fewer (λ y f. inr (inl f)) a) d₁) (weakened (agrees_on_fewer (λ y f. inr (inr f)) a) d₂)
weakened a (LET d₁ d₂) = LET (weakened (agrees_on_fewer (λ y. inl) a) d₁) (weakened (agrees_inside (agrees_on_fewer (λ y. inr) a)) d₂)
weakened a (ABSTR' d) = ABSTR' (weakened (agrees_inside a) d)
weakened a (REC' d) = REC' (weakened (agrees_inside a) d)

pub closed_in_any : {Γ Γ' : Env Ty} {e : Exp} {τ : Ty} → Closed e → Has Γ e τ → Has Γ' e τ
closed_in_any closed = weakened (record { on = λ y t free. absurd (closed.nothing_free y free) })

-- x is in dom(Γ).
abbrev pub Known : Env Ty → Name → Type 0
Known Γ x = (t : Ty) × (Δ : Env Ty) × Find Γ x t Δ

found_outside : {Γ Δ : Env Ty} {x y : Name} {t σ : Ty} → x ≢ y → Find (bind Γ y σ) x t Δ → Find Γ x t Δ
found_outside differ here = absurd (differ refl)
found_outside differ (outside _ found) = found

known_outside : {Γ : Env Ty} {x y : Name} {σ : Ty} → x ≢ y → Known (bind Γ y σ) x → Known Γ x
known_outside differ (t, Δ, found) = (t, Δ, found_outside differ found)

-- Lemma 7(a)
pub typed_names_known : {Γ : Env Ty} {e : Exp} {τ : Ty} → Has Γ e τ → (x : Name) → Free x e → Known Γ x
typed_names_known (CONST is) x f = absurd f
typed_names_known (ID {Δ = Δ} {τ = τ} found) x f = rw f (τ, Δ, found)
typed_names_known (APP d₁ d₂) x f = ⊎_elim (typed_names_known d₁ x) (typed_names_known d₂ x) f
typed_names_known (COND d₀ d₁ d₂) x f = ⊎_elim (typed_names_known d₀ x) (⊎_elim (typed_names_known d₁ x) (typed_names_known d₂ x)) f
typed_names_known (LET d₁ d₂) x f = ⊎_elim (typed_names_known d₁ x) (λ g. known_outside g.0 (typed_names_known d₂ x g.1)) f
typed_names_known (ABSTR' d) x f = known_outside f.0 (typed_names_known d x f.1)
typed_names_known (REC' d) x f = known_outside f.0 (typed_names_known d x f.1)

pub typed_is_closed : {e : Exp} {τ : Ty} → Has empty e τ → Closed e
typed_is_closed d = record { nothing_free = λ x f. nowhere (typed_names_known d x f) }
  where
    nowhere : {x : Name} → ¬ Known empty x
    nowhere (t, Δ, found) = elim found [ ]

-- ---- Substitution

shadowed : {Γ : Env Ty} {x y : Name} {σ ρ : Ty} {P : Name → Type 0} → x ≡ y → Agrees P (bind (bind Γ x σ) y ρ) (bind Γ y ρ)
shadowed {Γ} {x} {y} {σ} {ρ} {P} same = record { on = at }
  where
    at : (z : Name) (t : Ty) → P z → Has (bind (bind Γ x σ) y ρ) (name z) t → Has (bind Γ y ρ) (name z) t
    at z t p (ID here) = ID here
    at z t p (ID (outside ne here)) = absurd (ne same)
    at z t p (ID (outside ne (outside _ f))) = ID (outside ne f)

exchanged : {Γ : Env Ty} {x y : Name} {σ ρ : Ty} {P : Name → Type 0} → x ≢ y → Agrees P (bind (bind Γ x σ) y ρ) (bind (bind Γ y ρ) x σ)
exchanged {Γ} {x} {y} {σ} {ρ} {P} differ = record { on = at }
  where
    at : (z : Name) (t : Ty) → P z → Has (bind (bind Γ x σ) y ρ) (name z) t → Has (bind (bind Γ y ρ) x σ) (name z) t
    at z t p (ID here) = ID (outside (λ e. differ (sym e)) here)
    at z t p (ID (outside ne here)) = ID here
    at z t p (ID (outside ne (outside ne' f))) = ID (outside ne' (outside ne f))

module _ {x : Name} {s : Exp} {σ : Ty} (typed : Has empty s σ) where
  in_name : {Γ : Env Ty} {y : Name} {τ : Ty} → Has (bind Γ x σ) (name y) τ → Has Γ (cond (eqb x y) s (name y)) τ
  in_name {y} (ID here) = rw (eq-eqb y y refl) (closed_in_any (typed_is_closed typed) typed)
  in_name {y} (ID (outside ne f)) = rw (ne_eqb x y (λ e. ne (sym e))) (ID f)

  -- Below a binder y nothing is put in for x if y is x, and s is put in as before if it is not.
  in_body : {Γ : Env Ty} {y : Name} {ρ τ : Ty} {e : Exp}
      → (Has (bind (bind Γ y ρ) x σ) e τ → Has (bind Γ y ρ) (sub x s e) τ)
      → Has (bind (bind Γ x σ) y ρ) e τ → Has (bind Γ y ρ) (cond (eqb x y) e (sub x s e)) τ
  in_body {Γ} {y} {ρ} {τ} {e} put_in d = go (ℕ_discrete x y)
    where
      go : Dec (x ≡ y) → Has (bind Γ y ρ) (cond (eqb x y) e (sub x s e)) τ
      go (yes same) = rw (eq-eqb x y same) (weakened (shadowed same) d)
      go (no differ) = rw (ne_eqb x y differ) (put_in (weakened (exchanged differ) d))

  -- Lemma 9, of a closed expression put in
  pub substituted : {Γ : Env Ty} {e : Exp} {τ : Ty} → Has (bind Γ x σ) e τ → Has Γ (sub x s e) τ
  unfolding sub
  substituted {e = constant c} (CONST is) = CONST is
  substituted {e = name y} d = in_name d
  substituted {e = app e₁ e₂} (APP d₁ d₂) = APP (substituted {e = e₁} d₁) (substituted {e = e₂} d₂)
  substituted {e = if_then_else e₀ e₁ e₂} (COND d₀ d₁ d₂) = COND (substituted {e = e₀} d₀) (substituted {e = e₁} d₁) (substituted {e = e₂} d₂)
  substituted {e = lambda y e} (ABSTR' d) = ABSTR' (in_body substituted d)
  substituted {e = let_in y e₁ e₂} (LET d₁ d₂) = LET (substituted {e = e₁} d₁) (in_body substituted d₂)
  substituted {e = rec y e} (REC' d) = REC' (in_body substituted d)
