-- The whole answer of inference, computed by the textbook's unification of a table's equations. It is an answer that inference may give,
-- and any answer that it may give is this one.
use Rattle.std.specs.Prelude.{ℕ, ◌≤◌, ◌≡◌, Bool, true, false, List, ltb, length, Option, None, Some, Result, Ok, Err}
use Rattle.std.proofs.Math.Path.{refl}
use Rattle.std.proofs.Common.{sym, ◌∙◌, subst}
use borrow.Author.Tests.{ltb-true, ltb-false, lt-ltb, le-ltb}
use Rattle.language.specs.Ty.{Ty}
use Rattle.language.specs.WrittenForm.{words_of}
use Rattle.language.proofs.WrittenFormLaws.{principal_same_words}
use Rattle.table.specs.Node.{node_at}
use Rattle.acceptance.specs.Refusals.{check_of}
use Rattle.table.specs.ExpressionOf.{exp_at, exp_of}
use Rattle.acceptance.specs.Accepted.{accepted_is_checked, count_is}
use Rattle.acceptance.specs.declared.Refusal.{Refusal}
use Rattle.equations.specs.Inferred.{inferred, RightType}
use Rattle.equations.proofs.InferredRight.{inferred_right}
use Rattle.inference.specs.Inference.{work_for, work_cleared, with_type, After, leaves, Infers, turned, work_short, no_type, out_short, typed}
use Rattle.inference.specs.declared.Untyped.TheVariants.{Refused, WorkTooShort, NoType, OutTooShort}

module _ (words work out : List ℕ) where
  -- ---- The answer

  -- Is the out slice too short? If not, the type is written.
  abbrev out_after : Bool → ℕ → List ℕ → After
  out_after true n type = leaves (Err OutTooShort) (work_cleared n work) out
  out_after false n type = leaves (Ok (length type)) (work_cleared n work) (with_type type out)

  abbrev type_after : ℕ → Option Ty → After
  type_after n None = leaves (Err NoType) (work_cleared n work) out
  type_after n (Some τ) = out_after (ltb (length out) (length (words_of τ))) n (words_of τ)

  -- Is the work slice too short? If not, the type decides.
  abbrev work_after : Bool → ℕ → After
  work_after true n = leaves (Err WorkTooShort) work out
  work_after false n = type_after n (inferred (node_at words) n)

  abbrev check_after : Result ℕ Refusal → After
  check_after (Err refusal) = leaves (Err (Refused refusal)) work out
  check_after (Ok n) = work_after (ltb (length work) (work_for n)) n

  unfoldable pub textbook : After
  textbook = check_after (check_of words)

  -- ---- It may be given

  module _ {n : ℕ} (v : check_of words ≡ Ok n) where
    pub right_type_inferred : RightType (exp_of words) (inferred (node_at words) n)
    right_type_inferred =
        let checked = accepted_is_checked words n v in
        subst (λ count. RightType (exp_at (node_at words) count 0) (inferred (node_at words) n)) (sym (count_is checked)) (inferred_right checked.closed)

    module _ (enough : work_for n ≤ length work) where
      by_out : (τ : Ty) → RightType (exp_of words) (Some τ) → (short : Bool) → ltb (length out) (length (words_of τ)) ≡ short → Infers words work out (out_after short n (words_of τ))
      by_out τ p true s = out_short v enough p (ltb-true _ _ s) refl
      by_out τ p false s = typed v enough p (ltb-false _ _ s) refl

      by_type : (type : Option Ty) → RightType (exp_of words) type → Infers words work out (type_after n type)
      by_type None untyped = no_type v enough untyped refl
      by_type (Some τ) p = by_out τ p (ltb (length out) (length (words_of τ))) refl

    by_work : (short : Bool) → ltb (length work) (work_for n) ≡ short → Infers words work out (work_after short n)
    by_work true s = work_short v (ltb-true _ _ s) refl
    by_work false s = by_type (ltb-false _ _ s) (inferred (node_at words) n) right_type_inferred

  by_check : (r : Result ℕ Refusal) → check_of words ≡ r → Infers words work out (check_after r)
  by_check (Err refusal) v = turned v refl
  by_check (Ok n) v = by_work v (ltb (length work) (work_for n)) refl

  pub textbook_infers : Infers words work out textbook
  unfolding textbook
  textbook_infers = by_check (check_of words) refl

  -- ---- It is the only one

  -- All right types have the same words.
  right_types_leave_the_same : (n : ℕ) (type type' : Option Ty) → RightType (exp_of words) type → RightType (exp_of words) type' → type_after n type ≡ type_after n type'
  right_types_leave_the_same n None None untyped untyped' = refl
  right_types_leave_the_same n None (Some τ) untyped p = absurd (untyped τ p.typed)
  right_types_leave_the_same n (Some τ) None p untyped = absurd (untyped τ p.typed)
  right_types_leave_the_same n (Some τ) (Some τ') p p' = rw (principal_same_words p p')

  right_type_decides : {n : ℕ} → check_of words ≡ Ok n → work_for n ≤ length work → (type : Option Ty) → RightType (exp_of words) type → type_after n type ≡ textbook
  unfolding textbook
  right_type_decides {n} v enough type right =
      rw (v, le-ltb (length work) (work_for n)) (right_types_leave_the_same n type (inferred (node_at words) n) right (right_type_inferred v))

pub infers_textbook : {words work out : List ℕ} {a : After} → Infers words work out a → a ≡ textbook words work out
unfolding textbook
infers_textbook (turned v is) = rw v is
infers_textbook {work} (work_short {n} v short is) = rw (v, lt-ltb (length work) (work_for n)) is
infers_textbook {words} {work} {out} (no_type v enough untyped is) = is ∙ right_type_decides words work out v enough None untyped
infers_textbook {words} {work} {out} (out_short {τ = τ} v enough p short is) =
    is ∙ rw (lt-ltb (length out) (length (words_of τ))) at (right_type_decides words work out v enough (Some τ) p)
infers_textbook {words} {work} {out} (typed {τ = τ} v enough p fits is) =
    is ∙ rw (le-ltb (length out) (length (words_of τ))) at (right_type_decides words work out v enough (Some τ) p)
