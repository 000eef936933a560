-- Types with variables, and substitutions on them (lecture notes, Definition 11 in section 9.1, 16 to 21 in 10.3, 26 in 10.5).
use Rattle.std.specs.Prelude.{ℕ, ◌≡◌}

-- ---- Types

-- τ ::= unit | bool | int | τ₁ → τ₂ | α
infixr 60 ◌⇒◌
pub data Ty : Type 0 where
  unit bool int : Ty
  ◌⇒◌ : Ty → Ty → Ty
  var : ℕ → Ty

-- ---- Substitutions

-- Definition 16: s : TVar → Type. That s(α) ≠ α for finitely many α only plays no part: a type has finitely many variables.
abbrev pub Subst : Type 0
Subst = ℕ → Ty

-- []
abbrev pub identity : Subst
identity = var

-- Definition 17: `apply s τ` is τ s.
unfoldable pub apply : Subst → Ty → Ty
apply s unit = unit
apply s bool = bool
apply s int = int
apply s (τ₁ ⇒ τ₂) = apply s τ₁ ⇒ apply s τ₂
apply s (var α) = s α

-- Definition 18: (s₁ s₂)(α) = (s₁(α)) s₂
abbrev pub compose : Subst → Subst → Subst
compose s₁ s₂ α = apply s₂ (s₁ α)

-- Definition 21: s₁ ⊑ s₂, s₁ is more general than s₂, if some s has s₁ s = s₂.
pub record MoreGeneral (s₁ s₂ : Subst) : Type 0 where
  pub after : Subst
  pub is : compose s₁ after ≡ s₂

-- Definition 26: τ ⊑ τ', τ' is an instance of τ, if some s has τ s = τ'.
pub record Instance (τ τ' : Ty) : Type 0 where
  pub by : Subst
  pub is : apply by τ ≡ τ'
