-- The parts of a line, one after the other.
use Rattle.std.specs.Prelude.{ℕ, ◌+◌, ◌*◌, ◌≤◌, ◌≡◌, refl, Result, Ok, Err, List, [], ◌∷◌, ◌++◌, map, length, take}
use Rattle.std.proofs.Common.{append_assoc, arith, length-take-le}
use Rattle.decimal.specs.Decimal.{decimal, signed_decimal, spaced}
use Rattle.decimal.specs.Puts.{Puts, PutsWithin}
use Rattle.decimal.specs.TextLaws.{puts_within, puts_more, puts_within_then, spaced_append, spaced_one}
use Rattle.decimal.specs.declared.text.Text.{Text}
use Rattle.inference.specs.Inference.{code_of as type_code, place_of}
use Rattle.inference.specs.declared.Untyped.{Untyped}
use Rattle.answers.specs.Answers.{code_of as run_code}
use Rattle.answers.specs.declared.Answer.{Answer}
use Rattle.formula.specs.Lines.{type_text, type_words, type_line, run_text, printed_payload}

-- How many words of a type follow its place.
abbrev pub words_shown : Result ℕ Untyped → ℕ
words_shown (Ok count) = count
words_shown (Err untyped) = 0

pub line_goes_on : {most more : ℕ} {t t₁ t₂ : Text} (first : List ℕ) (texts others : List (List ℕ)) → PutsWithin most t (first ++ spaced texts) t₁ → PutsWithin more t₁ (spaced others) t₂ →
    PutsWithin (most + more) t (first ++ spaced (texts ++ others)) t₂
line_goes_on first texts others so_far w = rw (spaced_append texts others, ← append_assoc first (spaced texts) (spaced others)) (puts_within_then so_far w)

module _ (a : Result ℕ Untyped) (out : List ℕ) {t t₁ t₂ t₃ : Text} (within : words_shown a ≤ length out) (few : length out ≤ 64) where
  pub type_line_written : PutsWithin 26 t (type_text ++ spaced (decimal (type_code a) ∷ decimal (place_of a) ∷ [])) t₁ →
      PutsWithin (11 * length (take (words_shown a) out)) t₁ (spaced (map decimal (take (words_shown a) out))) t₂ → Puts t₂ (10 ∷ []) t₃ → PutsWithin 731 t (type_line a out) t₃
  type_line_written head words end =
      let shown = rw (shown_are a) at words in
      puts_more (omega (arith, length-take-le (words_shown a) out within)) (puts_within_then (line_goes_on type_text (decimal (type_code a) ∷ decimal (place_of a) ∷ []) (map decimal (type_words a out)) head shown) (puts_within end))
    where
      shown_are : (a : Result ℕ Untyped) → map decimal (take (words_shown a) out) ≡ map decimal (type_words a out)
      shown_are (Ok count) = refl
      shown_are (Err untyped) = refl

pub run_numbers : (answer : Answer) {t t₁ t₂ t₃ t₄ : Text} → Puts t run_text t₁ → PutsWithin 11 t₁ (spaced (decimal (run_code answer) ∷ [])) t₂ → Puts t₂ (32 ∷ []) t₃ →
    PutsWithin 11 t₃ (signed_decimal (printed_payload answer)) t₄ → PutsWithin 26 t (run_text ++ spaced (decimal (run_code answer) ∷ signed_decimal (printed_payload answer) ∷ [])) t₄
run_numbers answer name code space payload =
    let paid = rw (← spaced_one (signed_decimal (printed_payload answer))) at (puts_within_then (puts_within space) payload) in
    line_goes_on run_text (decimal (run_code answer) ∷ []) (signed_decimal (printed_payload answer) ∷ []) (puts_within_then (puts_within name) code) paid
