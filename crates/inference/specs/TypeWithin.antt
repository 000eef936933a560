-- A type that is answered is no longer than the out slice.
use Rattle.std.specs.Prelude.{ℕ, ◌≤◌, ◌≡◌, List, length, Result, Ok, Err}
use Rattle.std.proofs.Common.{subst}
use Rattle.inference.specs.Inference.{After, Infers, turned, work_short, no_type, out_short, typed}
use Rattle.inference.specs.declared.Untyped.{Untyped}

abbrev Within : List ℕ → Result ℕ Untyped → Type 0
Within out (Ok count) = count ≤ length out
Within out (Err untyped) = Unit {0}

answer_within : {words work out : List ℕ} {a : After} → Infers words work out a → Within out a.answer
answer_within (turned v is) = rw is tt
answer_within (work_short v short is) = rw is tt
answer_within (no_type v enough untyped is) = rw is tt
answer_within (out_short v enough p short is) = rw is tt
answer_within (typed v enough p fits is) = rw is fits

pub type_within : {words work out : List ℕ} {a : After} {count : ℕ} → Infers words work out a → a.answer ≡ Ok count → count ≤ length out
type_within {out = out} i e = subst (Within out) e (answer_within i)
