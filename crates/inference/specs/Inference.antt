-- What inference answers, and what it leaves in the lent slices: a case for each code, in order.
use Rattle.std.specs.Prelude.{ℕ, ◌+◌, ◌*◌, ◌≤◌, ◌<◌, ◌≡◌, List, ◌++◌, length, drop, Result, Ok, Err}
use Rattle.lent.specs.Cleared.{cleared}
use Rattle.language.specs.Ty.{Ty}
use Rattle.language.specs.Environment.{empty}
use Rattle.language.specs.Typing.{Has}
use Rattle.language.specs.Principal.{Principal}
use Rattle.language.specs.WrittenForm.{words_of}
use Rattle.acceptance.specs.Refusals.{check_of, refusal_code, refusal_place}
use Rattle.table.specs.ExpressionOf.{exp_of}
use Rattle.acceptance.specs.declared.Refusal.{Refusal}
use Rattle.inference.specs.declared.Untyped.{Untyped}
use Rattle.inference.specs.declared.Untyped.TheVariants.{Refused, WorkTooShort, NoType, OutTooShort}

-- ---- The numbers of the rules

abbrev pub untyped_code : Untyped → ℕ
untyped_code (Refused refusal) = refusal_code refusal
untyped_code WorkTooShort = 5
untyped_code NoType = 6
untyped_code OutTooShort = 7

abbrev pub untyped_place : Untyped → ℕ
untyped_place (Refused refusal) = refusal_place refusal
untyped_place WorkTooShort = 0
untyped_place NoType = 0
untyped_place OutTooShort = 0

abbrev pub code_of : Result ℕ Untyped → ℕ
code_of (Ok count) = 0
code_of (Err untyped) = untyped_code untyped

-- The place of acceptance is the count of type words.
abbrev pub place_of : Result ℕ Untyped → ℕ
place_of (Ok count) = count
place_of (Err untyped) = untyped_place untyped

-- ---- The lent words

abbrev pub work_for : ℕ → ℕ
work_for nodes = 24 * nodes + 16

-- The first 24 × nodes + 16 words are zero and the rest is untouched.
abbrev pub work_cleared : ℕ → List ℕ → List ℕ
work_cleared nodes work = cleared (work_for nodes) work

-- The type first, all later words untouched.
abbrev pub with_type : List ℕ → List ℕ → List ℕ
with_type type out = type ++ drop (length type) out

-- ---- The answer

-- What a call answers, and its work and out words afterwards.
pub record After : Type 0 where
  pub answer : Result ℕ Untyped
  pub work : List ℕ
  pub out : List ℕ

abbrev pub leaves : Result ℕ Untyped → List ℕ → List ℕ → After
leaves answer work out = record { answer = answer; work = work; out = out }

pub data Infers (words work out : List ℕ) (a : After) : Type 0 where
  -- 1 to 4: the refusals of the check.
  turned : {refusal : Refusal} → check_of words ≡ Err refusal → a ≡ leaves (Err (Refused refusal)) work out → Infers words work out a
  -- 5: the work slice is too short.
  work_short : {n : ℕ} → check_of words ≡ Ok n → length work < work_for n → a ≡ leaves (Err WorkTooShort) work out → Infers words work out a
  -- 6: no typing exists.
  no_type : {n : ℕ} → check_of words ≡ Ok n → work_for n ≤ length work → ((τ : Ty) → ¬ Has empty (exp_of words) τ) →
      a ≡ leaves (Err NoType) (work_cleared n work) out → Infers words work out a
  -- 7: the type has more words than the out slice.
  out_short : {n : ℕ} {τ : Ty} → check_of words ≡ Ok n → work_for n ≤ length work → Principal empty (exp_of words) τ →
      length out < length (words_of τ) → a ≡ leaves (Err OutTooShort) (work_cleared n work) out → Infers words work out a
  -- 0: the most general type, written.
  typed : {n : ℕ} {τ : Ty} → check_of words ≡ Ok n → work_for n ≤ length work → Principal empty (exp_of words) τ →
      length (words_of τ) ≤ length out → a ≡ leaves (Ok (length (words_of τ))) (work_cleared n work) (with_type (words_of τ) out) → Infers words work out a
