-- Of two texts that are printed for an input neither differs from the other.
use Rattle.std.specs.Prelude.{◌≡◌, List, ◌++◌, ℕ}
use Rattle.std.proofs.Common.{sym, ◌∙◌, ap, subst, arith}
use Rattle.inference.specs.Inference.{After}
use Rattle.inference.specs.InferenceOnce.{infers_once}
use Rattle.machine.specs.declared.Ran.{Ran}
use Rattle.formula.specs.Lines.{type_line, run_line}
use Rattle.formula.specs.Program.{TwoLines, Prints, no_words, answered}

two_lines_once : {words text text' : List ℕ} → TwoLines words text → TwoLines words text' → text ≡ text'
two_lines_once a b =
    let same_after : a.after ≡ b.after = infers_once a.infers b.infers in
    let same_ran : a.ran ≡ b.ran = a.runs.answer ∙ sym b.runs.answer in
    a.is ∙ ap (λ (x : After). type_line x.answer x.out ++ run_line a.ran) same_after ∙ ap (λ (r : Ran). type_line b.after.answer b.after.out ++ run_line r) same_ran ∙ sym b.is

pub prints_once : {input text text' : List ℕ} → Prints input text → Prints input text' → text ≡ text'
prints_once (no_words none_found is) (no_words none_found' is') = is ∙ sym is'
prints_once (no_words none_found is) (answered found two) = absurd (let z : ◌≡◌ {A = ℕ} 0 1 = cc in omega arith)
prints_once (answered found two) (no_words none_found is) = absurd (let z : ◌≡◌ {A = ℕ} 0 1 = cc in omega arith)
prints_once {text' = text'} (answered {words} found two) (answered {words = words'} found' two') =
    let same : words' ≡ words = cc in
    two_lines_once two (subst (λ ws. TwoLines ws text') same two')
