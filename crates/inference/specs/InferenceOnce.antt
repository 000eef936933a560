-- Nothing of inference's answer is left open: no two answers may be given, and each code of its own, 0 and 5 to 7, is answered exactly in
-- its case.
use Rattle.std.specs.Prelude.{ℕ, ◌≡◌, refl, List, [], ◌∷◌, ◌↔◌, get_or}
use Rattle.std.proofs.Common.{sym, ◌∙◌, ap, subst}
use Rattle.acceptance.specs.RefusedFor.{RefusedFor, for_its_count, for_a_rule, for_a_parent, for_a_name}
use Rattle.acceptance.proofs.RefusalsExactly.{refused_for}
use Rattle.inference.specs.Inference.{code_of, After, Infers, turned, work_short, no_type, out_short, typed}
use Rattle.inference.specs.Cases.{WorkShort, NoType, OutShort, TypeFits}
use Rattle.inference.specs.Textbook.{infers_textbook}

pub infers_once : {words work out : List ℕ} {a b : After} → Infers words work out a → Infers words work out b → a ≡ b
infers_once i j = infers_textbook i ∙ sym (infers_textbook j)

-- ---- The case of each code of its own

module _ (words work out : List ℕ) where
  -- By code; of the check's own codes nothing is claimed here.
  abbrev CaseOf : ℕ → Type 0
  CaseOf code = get_or (TypeFits words work out ∷ Unit {0} ∷ Unit {0} ∷ Unit {0} ∷ Unit {0} ∷ WorkShort words work ∷ NoType words work ∷ OutShort words work out ∷ []) code (Unit {0})

  of_the_check : {code place : ℕ} → RefusedFor words code place → CaseOf code
  of_the_check (for_its_count _) = tt
  of_the_check (for_a_rule _ _) = tt
  of_the_check (for_a_parent _ _ _) = tt
  of_the_check (for_a_name _ _ _ _) = tt

  in_case : {a : After} → Infers words work out a → CaseOf (code_of a.answer)
  in_case (turned v is) = rw is (of_the_check (refused_for words v))
  in_case (work_short {n} v short is) = rw is (n, v, short)
  in_case (no_type {n} v enough untyped is) = rw is (n, v, enough, untyped)
  in_case (out_short {n} {τ} v enough p short is) = rw is (n, τ, v, enough, p, short)
  in_case (typed {n} {τ} v enough p fits is) = rw is (n, τ, v, enough, p, fits)

module _ {words work out : List ℕ} {a : After} (i : Infers words work out a) where
  case_of : {code : ℕ} → code_of a.answer ≡ code → CaseOf words work out code
  case_of e = subst (CaseOf words work out) e (in_case words work out i)

  same_code : {b : After} → Infers words work out b → code_of a.answer ≡ code_of b.answer
  same_code j = ap (λ x. code_of x.answer) (infers_once i j)

  pub code_5_exactly : (code_of a.answer ≡ 5) ↔ WorkShort words work
  code_5_exactly = (case_of, λ (n, v, short). same_code (work_short v short refl))

  pub code_6_exactly : (code_of a.answer ≡ 6) ↔ NoType words work
  code_6_exactly = (case_of, λ (n, v, enough, untyped). same_code (no_type v enough untyped refl))

  pub code_7_exactly : (code_of a.answer ≡ 7) ↔ OutShort words work out
  code_7_exactly = (case_of, λ (n, τ, v, enough, p, short). same_code (out_short v enough p short refl))

  pub code_0_exactly : (code_of a.answer ≡ 0) ↔ TypeFits words work out
  code_0_exactly = (case_of, λ (n, τ, v, enough, p, fits). same_code (typed v enough p fits refl))
