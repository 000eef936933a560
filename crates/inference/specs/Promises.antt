-- What is proved of the call `infer`, in one place: of its contract `Infers` alone, so of every answer that the code may give.
use Rattle.std.specs.Prelude.{ℕ, ◌≤◌, ◌≡◌, ◌↔◌, ◌⊎◌, List, length, Ok}
use Rattle.language.specs.Ty.{Ty}
use Rattle.language.specs.Environment.{empty}
use Rattle.language.specs.Typing.{Has}
use Rattle.language.specs.Principal.{Principal}
use Rattle.acceptance.specs.Refusals.{check_of}
use Rattle.table.specs.ExpressionOf.{exp_of}
use Rattle.inference.specs.Inference.{code_of, work_for, After, Infers}
use Rattle.inference.specs.InferenceOnce as InferenceOnce
use Rattle.inference.specs.AcceptsExactly as AcceptsExactly

-- Two answers that the contract allows are equal, with every work and out word.
infers_once : {words work out : List ℕ} {a b : After} → Infers words work out a → Infers words work out b → a ≡ b
infers_once = InferenceOnce.infers_once

-- Given a checked table and enough work: code 0 or 7 exactly if some type exists, and 6 exactly if none does.
accepts_exactly : {words work out : List ℕ} {n : ℕ} {a : After} → check_of words ≡ Ok n → work_for n ≤ length work → Infers words work out a →
    (((code_of a.answer ≡ 0) ⊎ (code_of a.answer ≡ 7)) ↔ ((τ : Ty) × Has empty (exp_of words) τ)) ×
    ((code_of a.answer ≡ 6) ↔ (¬ ((τ : Ty) × Has empty (exp_of words) τ)))
accepts_exactly = AcceptsExactly.accepts_exactly

-- Korollar 2: a formula with some type has a most general one.
typable_has_most_general : (words : List ℕ) {n : ℕ} → check_of words ≡ Ok n → {τ : Ty} → Has empty (exp_of words) τ → (μ : Ty) × Principal empty (exp_of words) μ
typable_has_most_general = AcceptsExactly.typable_has_most_general
