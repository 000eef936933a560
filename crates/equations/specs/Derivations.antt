-- Derivations as values, packed with what they derive: a walk through a table can carry them from a node to its child.
use Rattle.std.specs.Prelude.{ℕ, ◌≡◌, refl, Option, None, Some}
use Rattle.std.proofs.Common.{subst}
use Rattle.language.specs.Expression.{Exp, unit_element}
use Rattle.language.specs.Ty.{Ty, unit}
use Rattle.language.specs.Environment.{Env, empty}
use Rattle.language.specs.Typing.{Has, CONST, ID, APP, COND, LET, ABSTR', REC'}
use Rattle.table.specs.Node.{Node, constant_node, name_node, application_node, if_node, lambda_node, let_node, rec_node, Field, field_a, field_b, field_c, child}
use Rattle.table.specs.ExpressionOf.{shape}
use Rattle.equations.specs.ScopeEnvironment.{inside}

pub record Derivation : Type 0 where
  pub env : Env Ty
  pub exp : Exp
  pub type : Ty
  pub derived : Has env exp type

abbrev pub packed : {Γ : Env Ty} {e : Exp} {τ : Ty} → Has Γ e τ → Derivation
packed {Γ} {e} {τ} d = record { env = Γ; exp = e; type = τ; derived = d }

-- The type at which its last rule binds a name. Any type will do where that rule binds none.
abbrev type_bound : {Γ : Env Ty} {e : Exp} {τ : Ty} → Has Γ e τ → Ty
type_bound (CONST is) = unit
type_bound (ID found) = unit
type_bound (APP d₁ d₂) = unit
type_bound (COND d₀ d₁ d₂) = unit
type_bound (LET {τ = τ} d₁ d₂) = τ
type_bound (ABSTR' {τ = τ} d) = τ
type_bound (REC' {τ = τ} d) = τ

abbrev pub binds : Derivation → Ty
binds j = type_bound j.derived

-- Stands where a rule has no premise.
abbrev no_premise : Derivation
no_premise = packed (CONST {Γ = empty} {c = unit_element} refl)

abbrev in_fields : Derivation → Derivation → Derivation → Field → Derivation
in_fields a b c field_a = a
in_fields a b c field_b = b
in_fields a b c field_c = c

-- The premises of its last rule, each under the field in which a node has that child.
abbrev premise_of : {Γ : Env Ty} {e : Exp} {τ : Ty} → Has Γ e τ → Field → Derivation
premise_of (CONST is) = in_fields no_premise no_premise no_premise
premise_of (ID found) = in_fields no_premise no_premise no_premise
premise_of (APP d₁ d₂) = in_fields (packed d₁) (packed d₂) no_premise
premise_of (COND d₀ d₁ d₂) = in_fields (packed d₀) (packed d₁) (packed d₂)
premise_of (LET d₁ d₂) = in_fields no_premise (packed d₁) (packed d₂)
premise_of (ABSTR' d) = in_fields no_premise (packed d) no_premise
premise_of (REC' d) = in_fields no_premise (packed d) no_premise

abbrev pub premise : Derivation → Field → Derivation
premise j = premise_of j.derived

-- j types e in Γ.
pub data Types : Derivation → Env Ty → Exp → Type 0 where
  types : {Γ : Env Ty} {e : Exp} {τ : Ty} (d : Has Γ e τ) → Types (packed d) Γ e

-- The same of the child in a field, if there is one.
abbrev TypesKid : (ℕ → Exp) → Derivation → Env Ty → Option ℕ → Type 0
TypesKid at j Γ None = Unit
TypesKid at j Γ (Some c) = Types j Γ (at c)

-- What j types it types by a derivation that it packs.
pub taken_apart : {j : Derivation} {Γ : Env Ty} {e : Exp} → Types j Γ e → (τ : Ty) × (d : Has Γ e τ) × (packed d ≡ j)
taken_apart (types {τ = τ} d) = (τ, d, refl)

module _ (at : ℕ → Exp) where
  -- A derivation for a node has derivations for its children as premises: a line for each rule.
  premises_type_kids : {Γ : Env Ty} {τ : Ty} (node : Node) (d : Has Γ (shape at node) τ) (f : Field) → TypesKid at (premise_of d f) (inside node f (type_bound d) Γ) (child node f)
  premises_type_kids (constant_node c) d = λ f. tt
  premises_type_kids (name_node x) d = λ f. tt
  premises_type_kids (application_node l r) (APP d₁ d₂) = elim [ field_a ↦ types d₁ | field_b ↦ types d₂ | field_c ↦ tt ]
  premises_type_kids (if_node e₀ e₁ e₂) (COND d₀ d₁ d₂) = elim [ field_a ↦ types d₀ | field_b ↦ types d₁ | field_c ↦ types d₂ ]
  premises_type_kids (lambda_node x e) (ABSTR' d) = elim [ field_a ↦ tt | field_b ↦ types d | field_c ↦ tt ]
  premises_type_kids (let_node x e₁ e₂) (LET d₁ d₂) = elim [ field_a ↦ tt | field_b ↦ types d₁ | field_c ↦ types d₂ ]
  premises_type_kids (rec_node x e) (REC' d) = elim [ field_a ↦ tt | field_b ↦ types d | field_c ↦ tt ]

  pub premise_types_kid : {j : Derivation} {Γ : Env Ty} (node : Node) (f : Field) {c : ℕ} → child node f ≡ Some c → Types j Γ (shape at node) → Types (premise j f) (inside node f (binds j) Γ) (at c)
  premise_types_kid {j} {Γ} node f stands typed =
      let (τ, d, is) = taken_apart typed in
      let kid = subst (λ (j' : Derivation). TypesKid at (premise j' f) (inside node f (binds j') Γ) (child node f)) is (premises_type_kids node d f) in
      subst (TypesKid at (premise j f) (inside node f (binds j) Γ)) stands kid
