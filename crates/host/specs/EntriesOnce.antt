-- Nothing of the entries' answers is left open: any two that a contract allows are equal, and so are the out bytes that they leave.
use Rattle.std.specs.Prelude.{ℕ, ◌≡◌, List}
use Rattle.std.proofs.Common.{sym, ◌∙◌, ap}
use Rattle.inference.specs.Inference.{code_of as inferred_code, place_of}
use Rattle.inference.specs.InferenceOnce.{infers_once}
use Rattle.answers.specs.Answers.{code_of, payload_of}
use Rattle.machine.specs.RunCall.{run_determined}
use Rattle.host.specs.Entries.{packed, Entry, part_of_a_node, whole_nodes, out_after, InfersTo, InferEntry, RunsTo, RunEntry}

entry_once : {table : List ℕ} {CodeOne₁ CodeOne₂ Answered₁ Answered₂ Same : Type 0} → (CodeOne₁ → CodeOne₂ → Same) → (Answered₁ → Answered₂ → Same) →
    Entry table CodeOne₁ Answered₁ → Entry table CodeOne₂ Answered₂ → Same
entry_once one answered (part_of_a_node p c) (part_of_a_node q d) = one c d
entry_once one answered (part_of_a_node p c) (whole_nodes q b) = absurd (p q)
entry_once one answered (whole_nodes p a) (part_of_a_node q d) = absurd (q p)
entry_once one answered (whole_nodes p a) (whole_nodes q b) = answered a b

pub infers_to_once : {words work type_words out out₁ out₂ : List ℕ} {r₁ r₂ : ℕ} → InfersTo words work type_words out out₁ r₁ → InfersTo words work type_words out out₂ r₂ → (r₁ ≡ r₂) × (out₁ ≡ out₂)
infers_to_once {out = out} x y =
    let same = infers_once x.infers y.infers in
    (x.number ∙ ap (λ a. packed (inferred_code a.answer) (place_of a.answer)) same ∙ sym y.number, x.out_is_after ∙ ap (λ a. out_after a.answer a.out out) same ∙ sym y.out_is_after)

pub infer_entry_once : {table out out₁ out₂ : List ℕ} {r₁ r₂ : ℕ} → InferEntry table out out₁ r₁ → InferEntry table out out₂ r₂ → (r₁ ≡ r₂) × (out₁ ≡ out₂)
infer_entry_once = entry_once (λ (r, o) (r', o'). (r ∙ sym r', o ∙ sym o')) infers_to_once

pub runs_to_once : {words : List ℕ} {fuel r₁ r₂ : ℕ} → RunsTo words fuel r₁ → RunsTo words fuel r₂ → r₁ ≡ r₂
runs_to_once x y =
    let (same, _, _) = run_determined x.runs y.runs in
    x.number ∙ ap (λ ran. packed (code_of ran.answer) (payload_of ran.answer)) same ∙ sym y.number

pub run_entry_once : {table : List ℕ} {fuel r₁ r₂ : ℕ} → RunEntry table fuel r₁ → RunEntry table fuel r₂ → r₁ ≡ r₂
run_entry_once = entry_once (λ r r'. r ∙ sym r') runs_to_once
