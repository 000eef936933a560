-- unify answers with a most general solution where there is a solution, and with "unsolvable" where there is none (lecture notes, Satz 11).
use Rattle.std.specs.Prelude.{ℕ, zero, suc, ◌+◌, ◌≤◌, ◌<◌, ◌≡◌, ◌⊎◌, ◌≢◌, Bool, not, cond, ◌||◌, List, [], ◌∷◌, length, T, eqb}
use native.Mathlib.Omega.{arith}
use Rattle.std.proofs.Math.Path.{refl, ap}
use Rattle.std.proofs.Common.{sym, ap₂, subst, T_not, eqb-true}
use Rattle.std.proofs.Math.Logic.{inl, inr, ⊎_elim}
use Rattle.std.proofs.Math.Bool.{true, false}
use Rattle.std.proofs.lemmas.Bool.{false≢true, eqb-false}
use Rattle.std.proofs.Math.Dec.{eqb_refl}
use Rattle.language.specs.Ty.{Ty, unit, bool, int, ◌⇒◌, var, Subst, apply}
use Rattle.language.proofs.TyLaws.{identity_most_general}
use Rattle.language.specs.Unification.{Equation, ◌≐◌, Solves, none_left, also, vars_all, occurs, single, apply_all, Unified, solution, unsolvable, Right}
use Rattle.language.specs.Unification.{Case, trivial, parts, variable, clash, case_of, eliminate, by_case, rules, size, size_all, unify_within, unify}
use Rattle.language.proofs.MostGeneral.{first_solved, rest_solved, single_most_general, after_right}
use Rattle.language.proofs.Elimination.{Holds, all_held, fewer_held}

-- ---- (VAR) where α occurs: α s is a proper part of τ s, unless τ is α

part_shorter : (a b : Bool) {k l₁ l₂ : ℕ} → (a ≡ true → k ≤ l₁) → (b ≡ true → k ≤ l₂) → (a || b) ≡ true → k < suc (l₁ + l₂)
part_shorter true b f g e = let h = f refl in omega arith
part_shorter false b f g e = let h = g e in omega arith

module _ (s : Subst) (α : ℕ) where
  not_longer : (τ : Ty) → (τ ≡ var α) ⊎ (size (s α) < size (apply s τ)) → size (s α) ≤ size (apply s τ)
  unfolding apply
  not_longer τ (inl e) = rw e (omega arith)
  not_longer τ (inr l) = omega arith

  proper_part : (τ : Ty) → occurs α τ ≡ true → (τ ≡ var α) ⊎ (size (s α) < size (apply s τ))
  unfolding occurs apply size
  proper_part unit e = absurd (false≢true e)
  proper_part bool e = absurd (false≢true e)
  proper_part int e = absurd (false≢true e)
  proper_part (τ₁ ⇒ τ₂) e =
      inr (part_shorter (occurs α τ₁) (occurs α τ₂) (λ e₁. not_longer τ₁ (proper_part τ₁ e₁)) (λ e₂. not_longer τ₂ (proper_part τ₂ e₂)) e)
  proper_part (var β) e = inl (ap var (sym (eqb-true α β e)))

-- ---- Which rule an equation falls under

-- What tells apart the forms of a type.
tag : Ty → ℕ
tag unit = 0
tag bool = 1
tag int = 2
tag (τ₁ ⇒ τ₂) = 3
tag (var α) = 4

different : {τ₁ τ₂ : Ty} → T (not (eqb (tag τ₁) (tag τ₂))) → τ₁ ≢ τ₂
different {τ₁} {τ₂} d e = T_not (eqb (tag τ₁) (tag τ₂)) d (subst (λ (τ : Ty). T (eqb (tag τ₁) (tag τ))) e (eqb_refl (tag τ₁)))

-- What the case of an equation says of its two sides.
data Means : Ty → Ty → Case → Type 0 where
  same : {τ : Ty} → Means τ τ trivial
  arrows : {τ₁ τ₂ τ₁' τ₂' : Ty} → Means (τ₁ ⇒ τ₂) (τ₁' ⇒ τ₂') (parts (τ₁ ≐ τ₁') (τ₂ ≐ τ₂'))
  left : {α : ℕ} {τ : Ty} → τ ≢ var α → Means (var α) τ (variable α τ)
  right : {α : ℕ} {τ : Ty} → τ ≢ var α → Means τ (var α) (variable α τ)
  never : (τ₁ τ₂ : Ty) → ((s : Subst) → apply s τ₁ ≢ apply s τ₂) → Means τ₁ τ₂ clash

case_means : (τ₁ τ₂ : Ty) → Means τ₁ τ₂ (case_of τ₁ τ₂)
unfolding case_of apply tag
case_means unit unit = same
case_means bool bool = same
case_means int int = same
case_means (τ₁ ⇒ τ₂) (τ₁' ⇒ τ₂') = arrows
case_means (var α) (var β) = go (eqb α β) refl
  where
    go : (b : Bool) → eqb α β ≡ b → Means (var α) (var β) (cond b trivial (variable α (var β)))
    go true e = rw (eqb-true α β e) same
    go false e = left (λ (q : var β ≡ var α). eqb-false α β e (cc))
case_means (var α) unit = left (different tt)
case_means (var α) bool = left (different tt)
case_means (var α) int = left (different tt)
case_means (var α) (τ₁ ⇒ τ₂) = left (different tt)
case_means unit (var α) = right (different tt)
case_means bool (var α) = right (different tt)
case_means int (var α) = right (different tt)
case_means (τ₁ ⇒ τ₂) (var α) = right (different tt)
case_means unit bool = never unit bool (λ s. different tt)
case_means unit int = never unit int (λ s. different tt)
case_means unit (τ₁ ⇒ τ₂) = never unit (τ₁ ⇒ τ₂) (λ s. different tt)
case_means bool unit = never bool unit (λ s. different tt)
case_means bool int = never bool int (λ s. different tt)
case_means bool (τ₁ ⇒ τ₂) = never bool (τ₁ ⇒ τ₂) (λ s. different tt)
case_means int unit = never int unit (λ s. different tt)
case_means int bool = never int bool (λ s. different tt)
case_means int (τ₁ ⇒ τ₂) = never int (τ₁ ⇒ τ₂) (λ s. different tt)
case_means (τ₁ ⇒ τ₂) unit = never (τ₁ ⇒ τ₂) unit (λ s. different tt)
case_means (τ₁ ⇒ τ₂) bool = never (τ₁ ⇒ τ₂) bool (λ s. different tt)
case_means (τ₁ ⇒ τ₂) int = never (τ₁ ⇒ τ₂) int (λ s. different tt)

-- ---- Lists with the same solutions

-- What is right for one is right for the other.
same_answer : {E E' : List Equation} → ((s : Subst) → Solves s E → Solves s E') → ((s : Subst) → Solves s E' → Solves s E) → (a : Unified) → Right E a → Right E' a
same_answer to from (solution s) r = record { solves = to s r.solves; most_general = λ s' h. r.most_general s' (from s' h) }
same_answer to from unsolvable r = λ s h. r s (from s h)

solves_turned : {τ₁ τ₂ : Ty} {E : List Equation} (s : Subst) → Solves s ((τ₁ ≐ τ₂) ∷ E) → Solves s ((τ₂ ≐ τ₁) ∷ E)
solves_turned s (also e h) = also (sym e) h

solves_joined : {τ₁ τ₁' τ₂ τ₂' : Ty} {E : List Equation} (s : Subst) → Solves s ((τ₁ ≐ τ₁') ∷ (τ₂ ≐ τ₂') ∷ E) → Solves s ((τ₁ ⇒ τ₂ ≐ τ₁' ⇒ τ₂') ∷ E)
unfolding apply
solves_joined s (also e₁ (also e₂ h)) = also (ap₂ ◌⇒◌ e₁ e₂) h

solves_parts : {τ₁ τ₁' τ₂ τ₂' : Ty} {E : List Equation} (s : Subst) → Solves s ((τ₁ ⇒ τ₂ ≐ τ₁' ⇒ τ₂') ∷ E) → Solves s ((τ₁ ≐ τ₁') ∷ (τ₂ ≐ τ₂') ∷ E)
unfolding apply
solves_parts {τ₁} {τ₁'} {τ₂} {τ₂'} s (also e h) =
    let e₁ : apply s τ₁ ≡ apply s τ₁' = cc in
    let e₂ : apply s τ₂ ≡ apply s τ₂' = cc in
    also e₁ (also e₂ h)

-- ---- Satz 11

-- The rules answer rightly if the two recursive calls do: on lists of length below m, and on lists whose variables are fewer than those of L.
module _ (m : ℕ) (L : List ℕ) (shorter fewer : List Equation → Unified)
    (shorter_right : (E : List Equation) → Holds L E → size_all E < m → Right E (shorter E))
    (fewer_right : (L' : List ℕ) (E : List Equation) → length L ≡ suc (length L') → Holds L' E → Right E (fewer E)) where
  eliminate_right : (α : ℕ) (τ : Ty) (E : List Equation) → τ ≢ var α → Holds L ((var α ≐ τ) ∷ E) → (b : Bool) → occurs α τ ≡ b → Right ((var α ≐ τ) ∷ E) (eliminate b α τ E fewer)
  unfolding apply
  eliminate_right α τ E n h true e = λ s q. ⊎_elim n (λ l. omega (arith, ap size (first_solved q))) (proper_part s α τ e)
  eliminate_right α τ E n h false e =
      let (L', l, h') = fewer_held α τ E e h in
      after_right E (single_most_general α τ e) (fewer (apply_all (single α τ) E)) (fewer_right L' (apply_all (single α τ) E) l h')

  case_right : {τ₁ τ₂ : Ty} {c : Case} (E : List Equation) → Means τ₁ τ₂ c → Holds L ((τ₁ ≐ τ₂) ∷ E) → size_all ((τ₁ ≐ τ₂) ∷ E) < suc m → Right ((τ₁ ≐ τ₂) ∷ E) (by_case c E shorter fewer)
  unfolding size_all size
  case_right E same h l = same_answer (λ s q. also refl q) (λ s q. rest_solved q) (shorter E) (shorter_right E h.2 (omega arith))
  case_right E (arrows {τ₁} {τ₂} {τ₁'} {τ₂'}) h l =
      let E' = (τ₁ ≐ τ₁') ∷ (τ₂ ≐ τ₂') ∷ E in
      same_answer solves_joined solves_parts (shorter E') (shorter_right E' (h.0.0, h.1.0, (h.0.1, h.1.1, h.2)) (omega arith))
  case_right E (left {α} {τ} n) h l = eliminate_right α τ E n h (occurs α τ) refl
  case_right E (right {α} {τ} n) h l =
      same_answer solves_turned solves_turned (eliminate (occurs α τ) α τ E fewer) (eliminate_right α τ E n (h.1, h.0, h.2) (occurs α τ) refl)
  case_right E (never τ₁ τ₂ n) h l = λ s q. n s (first_solved q)

  rules_right : (E : List Equation) → Holds L E → size_all E < suc m → Right E (rules E shorter fewer)
  rules_right [] h l = record { solves = none_left; most_general = λ s q. identity_most_general s }
  rules_right ((τ₁ ≐ τ₂) ∷ E) h l = case_right E (case_means τ₁ τ₂) h l

within_right : (n m : ℕ) (L : List ℕ) (E : List Equation) → length L ≡ n → Holds L E → size_all E < m → Right E (unify_within n m E)
unfolding unify_within
within_right zero zero L E e h l = omega arith
within_right (suc n) zero L E e h l = omega arith
within_right zero (suc m) L E e h l =
    rules_right m L _ _ (λ E' h' l'. within_right zero m L E' e h' l') (λ L' E' e'. omega arith) E h l
within_right (suc n) (suc m) L E e h l =
    rules_right m L _ _ (λ E' h' l'. within_right (suc n) m L E' e h' l')
    (λ L' E' e' h'. within_right n (suc (size_all E')) L' E' (omega arith) h' (omega arith)) E h l

pub unify_right : (E : List Equation) → Right E (unify E)
unfolding unify
unify_right E = within_right (length (vars_all E)) (suc (size_all E)) (vars_all E) E refl (all_held E) (omega arith)
