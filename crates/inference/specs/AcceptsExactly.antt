-- Inference accepts a formula exactly when the typing rules give it some type; and a formula with some type has a most general one
-- (lecture notes, Korollar 2).
use Rattle.std.specs.Prelude.{ℕ, ◌≤◌, ◌≡◌, refl, ◌↔◌, ◌⊎◌, List, [], length, Option, None, Some, Result, Ok}
use Rattle.std.proofs.Common.{sym, ◌∙◌, inl, inr, arith}
use Rattle.language.specs.Ty.{Ty}
use Rattle.language.specs.Environment.{empty}
use Rattle.language.specs.Typing.{Has}
use Rattle.language.specs.Principal.{Principal}
use Rattle.table.specs.Node.{node_at}
use Rattle.acceptance.specs.Refusals.{check_of}
use Rattle.table.specs.ExpressionOf.{exp_of}
use Rattle.acceptance.specs.declared.Refusal.{Refusal}
use Rattle.equations.specs.Inferred.{inferred, RightType}
use Rattle.inference.specs.Textbook.{right_type_inferred}
use Rattle.inference.specs.Inference.{code_of, work_for, After, Infers, turned, work_short, no_type, out_short, typed}

module _ {words work out : List ℕ} {n : ℕ} {a : After} (checked : check_of words ≡ Ok n) (enough : work_for n ≤ length work) (i : Infers words work out a) where
  abbrev code : ℕ
  code = code_of a.answer

  abbrev SomeType : Type 0
  SomeType = (τ : Ty) × Has empty (exp_of words) τ

  -- Which of the two it is.
  data Decided : Type 0 where
    taken : (code ≡ 0) ⊎ (code ≡ 7) → SomeType → Decided
    refused : code ≡ 6 → ¬ SomeType → Decided

  decided : Infers words work out a → Decided
  decided (turned v is) = absurd (let z : ◌≡◌ {A = ℕ} 0 1 = cc (sym checked ∙ v) in omega arith)
  decided (work_short {n = m} v short is) =
      let both : ◌≡◌ {A = Result ℕ Refusal} (Ok n) (Ok m) = sym checked ∙ v in
      let same : n ≡ m = cc in
      absurd (omega arith)
  decided (no_type v enough' untyped is) = refused (rw is refl) (λ (τ, t). untyped τ t)
  decided (out_short {τ = τ} v enough' p short is) = taken (inr (rw is refl)) (τ, p.typed)
  decided (typed {τ = τ} v enough' p fits is) = taken (inl (rw is refl)) (τ, p.typed)

  zero_or_seven_not_six : (code ≡ 0) ⊎ (code ≡ 7) → code ≡ 6 → ⊥
  zero_or_seven_not_six (inl zero_is) six = omega arith
  zero_or_seven_not_six (inr seven) six = omega arith

  -- Code 0 or 7 exactly if some type exists, and 6 exactly if none does.
  pub accepts_exactly : (((code ≡ 0) ⊎ (code ≡ 7)) ↔ SomeType) × ((code ≡ 6) ↔ (¬ SomeType))
  accepts_exactly = go (decided i)
    where
      go : Decided → (((code ≡ 0) ⊎ (code ≡ 7)) ↔ SomeType) × ((code ≡ 6) ↔ (¬ SomeType))
      go (taken c t) = ((λ _. t, λ _. c), (λ six. absurd (zero_or_seven_not_six c six), λ none_is. absurd (none_is t)))
      go (refused six none_is) = ((λ c. absurd (zero_or_seven_not_six c six), λ t. absurd (none_is t)), (λ _. none_is, λ _. six))

-- A checked table's formula with some type has a most general one.
pub typable_has_most_general : (words : List ℕ) {n : ℕ} → check_of words ≡ Ok n → {τ : Ty} → Has empty (exp_of words) τ → (μ : Ty) × Principal empty (exp_of words) μ
typable_has_most_general words {n} checked {τ} t = go (inferred (node_at words) n) (right_type_inferred words [] [] checked)
  where
    go : (type : Option Ty) → RightType (exp_of words) type → (μ : Ty) × Principal empty (exp_of words) μ
    go (Some μ) p = (μ, p)
    go None untyped = absurd (untyped τ t)
