-- The words and the numbered variables of a type: variables keep their numbers while more appear, and there are as many words as the
-- size says.
use Prim.Native.Nat.{ℕ, zero, suc, ◌+◌, ◌<◌}
use Rattle.std.specs.Prelude.{◌≡◌, Bool, ◌||◌, ◌≢◌, eqb, length}
use Rattle.std.proofs.Math.Path.{refl}
use Rattle.std.proofs.Common.{◌∙◌, ap, ap₂, arith, length-append, eq-eqb, ne_eqb}
use Rattle.std.proofs.Math.Bool.{true, false, cond}
use mathlib.Core.List.{List, [], ◌∷◌, ◌++◌}
use Rattle.language.specs.Ty.{Ty, unit, bool, int, ◌⇒◌, var}
use Rattle.language.specs.Unification.{size}
use Rattle.language.specs.WrittenForm.{is_among, appearing, place_in, spell}
use Rattle.cells.specs.Writing.{number_in, words_after}

-- ---- Lengths

pub length-spell : (f : ℕ → ℕ) (τ : Ty) → length (spell f τ) ≡ size τ
unfolding spell size
length-spell f unit = refl
length-spell f bool = refl
length-spell f int = refl
length-spell f (τ₁ ⇒ τ₂) = ap suc (length-append (spell f τ₁) (spell f τ₂) ∙ ap₂ ◌+◌ (length-spell f τ₁) (length-spell f τ₂))
length-spell f (var α) = refl

pub size_positive : (τ : Ty) → 0 < size τ
unfolding size
size_positive unit = omega arith
size_positive bool = omega arith
size_positive int = omega arith
size_positive (τ₁ ⇒ τ₂) = omega arith
size_positive (var α) = omega arith

-- ---- Numbers

-- One place further, for a variable that has a place.
abbrev further : ℕ → ℕ
further zero = 0
further (suc k) = suc (suc k)

-- The first number, or else the second.
abbrev or_else : ℕ → ℕ → ℕ
or_else zero k = k
or_else (suc n) k = suc n

number_cons : (γ : ℕ) (seen : List ℕ) (α : ℕ) → number_in (γ ∷ seen) α ≡ cond (eqb α γ) 1 (further (number_in seen α))
unfolding number_in is_among place_in
number_cons γ seen α = go (eqb α γ) (is_among α seen)
  where
    go : (here later : Bool) → cond (here || later) (suc (cond here 0 (suc (place_in seen α)))) 0 ≡ cond here 1 (further (cond later (suc (place_in seen α)) 0))
    go true later = refl
    go false true = refl
    go false false = refl

further_else : (n k : ℕ) (t : Bool) → further (or_else n (cond t (suc k) 0)) ≡ or_else (further n) (cond t (suc (suc k)) 0)
further_else zero k true = refl
further_else zero k false = refl
further_else (suc n) k t = refl

number_append : (seen : List ℕ) (α β : ℕ) → number_in (seen ++ β ∷ []) α ≡ or_else (number_in seen α) (cond (eqb α β) (suc (length seen)) 0)
unfolding number_in is_among place_in
number_append [] α β = number_cons β [] α
number_append (γ ∷ seen) α β = rw (number_cons γ (seen ++ β ∷ []) α, number_cons γ seen α, number_append seen α β) (go (eqb α γ))
  where
    go : (t : Bool) → cond t 1 (further (or_else (number_in seen α) (cond (eqb α β) (suc (length seen)) 0))) ≡ or_else (cond t 1 (further (number_in seen α))) (cond (eqb α β) (suc (suc (length seen))) 0)
    go true = refl
    go false = further_else (number_in seen α) (length seen) (eqb α β)

else_zero : (n : ℕ) → or_else n 0 ≡ n
else_zero zero = refl
else_zero (suc n) = refl

pub number_other : (seen : List ℕ) {α β : ℕ} → α ≢ β → number_in (seen ++ β ∷ []) α ≡ number_in seen α
number_other seen {α} {β} n = rw (number_append seen α β, ne_eqb α β) (else_zero (number_in seen α))

place_is : (seen : List ℕ) (α : ℕ) {k : ℕ} → number_in seen α ≡ suc k → place_in seen α ≡ k
unfolding number_in
place_is seen α {k} e = go (is_among α seen) e
  where
    go : (t : Bool) → cond t (suc (place_in seen α)) 0 ≡ suc k → place_in seen α ≡ k
    go true h = cc
    go false h = absurd (omega arith)

-- ---- A variable that was not seen

module _ (seen : List ℕ) (α : ℕ) (new : number_in seen α ≡ 0) where
  pub appearing_new : appearing seen (var α) ≡ seen ++ α ∷ []
  unfolding appearing number_in
  appearing_new = go (is_among α seen) new
    where
      go : (t : Bool) → cond t (suc (place_in seen α)) 0 ≡ 0 → cond t seen (seen ++ α ∷ []) ≡ seen ++ α ∷ []
      go true h = absurd (omega arith)
      go false h = refl

  pub number_new : number_in (seen ++ α ∷ []) α ≡ suc (length seen)
  number_new = rw (number_append seen α α, new, eq-eqb α α refl)

  pub words_new : words_after seen (var α) ≡ (16 + length seen) ∷ []
  unfolding spell
  words_new = rw (appearing_new, place_is (seen ++ α ∷ []) α number_new)

-- ---- A variable that was seen

module _ (seen : List ℕ) (α : ℕ) {k : ℕ} (old : number_in seen α ≡ suc k) where
  pub appearing_old : appearing seen (var α) ≡ seen
  unfolding appearing number_in
  appearing_old = go (is_among α seen) old
    where
      go : (t : Bool) → cond t (suc (place_in seen α)) 0 ≡ suc k → cond t seen (seen ++ α ∷ []) ≡ seen
      go true h = refl
      go false h = absurd (omega arith)

  pub words_old : words_after seen (var α) ≡ (16 + k) ∷ []
  unfolding spell
  words_old = rw (appearing_old, place_is seen α old)

  number_append_old : (β : ℕ) → number_in (seen ++ β ∷ []) α ≡ suc k
  number_append_old β = rw (number_append seen α β, old)

-- ---- More variables

-- What was seen keeps its number.
number_kept : (seen : List ℕ) (τ : Ty) (α k : ℕ) → number_in seen α ≡ suc k → number_in (appearing seen τ) α ≡ suc k
unfolding appearing
number_kept seen unit α k old = old
number_kept seen bool α k old = old
number_kept seen int α k old = old
number_kept seen (τ₁ ⇒ τ₂) α k old = number_kept (appearing seen τ₁) τ₂ α k (number_kept seen τ₁ α k old)
number_kept seen (var β) α k old = go (is_among β seen)
  where
    go : (t : Bool) → number_in (cond t seen (seen ++ β ∷ [])) α ≡ suc k
    go true = old
    go false = number_append_old seen α old β

-- A variable is seen once it appeared.
number_given : (seen : List ℕ) (α : ℕ) → (k : ℕ) × (number_in (appearing seen (var α)) α ≡ suc k)
number_given seen α = go (number_in seen α) refl
  where
    go : (n : ℕ) → number_in seen α ≡ n → (k : ℕ) × (number_in (appearing seen (var α)) α ≡ suc k)
    go zero new = (length seen, rw (appearing_new seen α new) (number_new seen α new))
    go (suc k) old = (k, rw (appearing_old seen α old) old)

-- The words of a type are the same under any later numbering.
spell_later : (later seen : List ℕ) (τ : Ty) → ((α k : ℕ) → number_in (appearing seen τ) α ≡ suc k → number_in later α ≡ suc k) → spell (place_in later) τ ≡ words_after seen τ
unfolding spell appearing
spell_later later seen unit kept = refl
spell_later later seen bool kept = refl
spell_later later seen int kept = refl
spell_later later seen (τ₁ ⇒ τ₂) kept =
    let seen₁ = appearing seen τ₁ in
    let seen₂ = appearing seen₁ τ₂ in
    let left = spell_later later seen τ₁ (λ α k h. kept α k (number_kept seen₁ τ₂ α k h)) in
    let left₂ = spell_later seen₂ seen τ₁ (λ α k h. number_kept seen₁ τ₂ α k h) in
    let right = spell_later later seen₁ τ₂ kept in
    rw (left, left₂, right)
spell_later later seen (var α) kept =
    let (k, given) = number_given seen α in
    rw (place_is later α (kept α k given), place_is (appearing seen (var α)) α given)

pub words_arrow : (seen : List ℕ) (τ₁ τ₂ : Ty) → words_after seen (τ₁ ⇒ τ₂) ≡ 4 ∷ words_after seen τ₁ ++ words_after (appearing seen τ₁) τ₂
unfolding spell appearing
words_arrow seen τ₁ τ₂ =
    let seen₁ = appearing seen τ₁ in
    rw (spell_later (appearing seen₁ τ₂) seen τ₁ (number_kept seen₁ τ₂))
