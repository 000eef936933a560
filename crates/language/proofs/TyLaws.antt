-- Substitutions on types are a monoid, and being more general is a preorder (lecture notes, Lemmas 11 to 13).
use Rattle.std.specs.Prelude.{◌≡◌, refl}
use Rattle.std.proofs.Common.{sym, ◌∙◌, ap, ap₂}
use Rattle.std.proofs.Math.Path.{fun_ext}
use Rattle.language.specs.Ty.{Ty, unit, bool, int, ◌⇒◌, var, Subst, identity, apply, compose, MoreGeneral, Instance}

-- Lemma 11: τ (s₁ s₂) = (τ s₁) s₂
pub apply_compose : (s₁ s₂ : Subst) (τ : Ty) → apply (compose s₁ s₂) τ ≡ apply s₂ (apply s₁ τ)
unfolding apply
apply_compose s₁ s₂ unit = refl
apply_compose s₁ s₂ bool = refl
apply_compose s₁ s₂ int = refl
apply_compose s₁ s₂ (τ₁ ⇒ τ₂) = ap₂ ◌⇒◌ (apply_compose s₁ s₂ τ₁) (apply_compose s₁ s₂ τ₂)
apply_compose s₁ s₂ (var α) = refl

pub apply_identity : (τ : Ty) → apply identity τ ≡ τ
unfolding apply
apply_identity unit = refl
apply_identity bool = refl
apply_identity int = refl
apply_identity (τ₁ ⇒ τ₂) = ap₂ ◌⇒◌ (apply_identity τ₁) (apply_identity τ₂)
apply_identity (var α) = refl

-- Lemma 12
pub compose_assoc : (s₁ s₂ s₃ : Subst) → compose (compose s₁ s₂) s₃ ≡ compose s₁ (compose s₂ s₃)
compose_assoc s₁ s₂ s₃ = fun_ext (λ α. sym (apply_compose s₂ s₃ (s₁ α)))

pub identity_compose : (s : Subst) → compose identity s ≡ s
unfolding apply
identity_compose s = refl

pub compose_identity : (s : Subst) → compose s identity ≡ s
compose_identity s = fun_ext (λ α. apply_identity (s α))

-- Lemma 13
pub more_general_refl : (s : Subst) → MoreGeneral s s
more_general_refl s = record { after = identity; is = compose_identity s }

pub more_general_trans : {s₁ s₂ s₃ : Subst} → MoreGeneral s₁ s₂ → MoreGeneral s₂ s₃ → MoreGeneral s₁ s₃
more_general_trans {s₁} g h =
    record { after = compose g.after h.after; is = sym (compose_assoc s₁ g.after h.after) ∙ ap (λ (s : Subst). compose s h.after) g.is ∙ h.is }

pub identity_most_general : (s : Subst) → MoreGeneral identity s
identity_most_general s = record { after = s; is = identity_compose s }

-- The same of types (after Definition 26).
pub instance_refl : (τ : Ty) → Instance τ τ
instance_refl τ = record { by = identity; is = apply_identity τ }

pub instance_trans : {τ₁ τ₂ τ₃ : Ty} → Instance τ₁ τ₂ → Instance τ₂ τ₃ → Instance τ₁ τ₃
instance_trans {τ₁} g h =
    record { by = compose g.by h.by; is = apply_compose g.by h.by τ₁ ∙ ap (apply h.by) g.is ∙ h.is }
