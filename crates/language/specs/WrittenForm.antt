-- The written form of a type: prefix order, 1 unit, 2 bool, 3 int, 4 arrow and then its two parts, 16 + k for variable k, where
-- variables are numbered from 0 by first appearance.
use Rattle.std.specs.Prelude.{ℕ, suc, ◌+◌, ◌≡◌, Bool, false, cond, ◌||◌, List, [], ◌∷◌, ◌++◌, eqb}
use Rattle.language.specs.Ty.{Ty, unit, bool, int, ◌⇒◌, var, apply}

-- ---- Numbering

unfoldable pub is_among : ℕ → List ℕ → Bool
is_among α [] = false
is_among α (β ∷ βs) = eqb α β || is_among α βs

-- The variables of a type by first appearance, after those that appeared before it.
unfoldable pub appearing : List ℕ → Ty → List ℕ
appearing before unit = before
appearing before bool = before
appearing before int = before
appearing before (τ₁ ⇒ τ₂) = appearing (appearing before τ₁) τ₂
appearing before (var α) = cond (is_among α before) before (before ++ α ∷ [])

-- The place of a variable in that order.
unfoldable pub place_in : List ℕ → ℕ → ℕ
place_in [] α = 0
place_in (β ∷ βs) α = cond (eqb α β) 0 (suc (place_in βs α))

-- ---- Words

-- The words of a type whose variables are numbered by f.
unfoldable pub spell : (ℕ → ℕ) → Ty → List ℕ
spell f unit = 1 ∷ []
spell f bool = 2 ∷ []
spell f int = 3 ∷ []
spell f (τ₁ ⇒ τ₂) = 4 ∷ spell f τ₁ ++ spell f τ₂
spell f (var α) = (16 + f α) ∷ []

unfoldable pub words_of : Ty → List ℕ
words_of τ = spell (place_in (appearing [] τ)) τ

-- ---- Renaming

-- Two types differ by a renaming of variables if there is one from each to the other.
pub record Renamed (τ τ' : Ty) : Type 0 where
  pub to : ℕ → ℕ
  pub from : ℕ → ℕ
  pub there : apply (λ α. var (to α)) τ ≡ τ'
  pub back : apply (λ α. var (from α)) τ' ≡ τ
