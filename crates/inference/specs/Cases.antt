-- When inference answers which of its own codes: 5, 6, 7 and 0.
use Rattle.std.specs.Prelude.{ℕ, ◌≤◌, ◌<◌, ◌≡◌, List, length, Ok}
use Rattle.language.specs.Ty.{Ty}
use Rattle.language.specs.Environment.{empty}
use Rattle.language.specs.Typing.{Has}
use Rattle.language.specs.Principal.{Principal}
use Rattle.language.specs.WrittenForm.{words_of}
use Rattle.acceptance.specs.Refusals.{check_of}
use Rattle.table.specs.ExpressionOf.{exp_of}
use Rattle.inference.specs.Inference.{work_for}

module _ (words work : List ℕ) where
  -- 5: the work slice of an accepted table is shorter than 24 × nodes + 16 words.
  abbrev pub WorkShort : Type 0
  WorkShort = (n : ℕ) × (check_of words ≡ Ok n) × (length work < work_for n)

  -- 6: there is work enough, and no typing exists.
  abbrev pub NoType : Type 0
  NoType = (n : ℕ) × (check_of words ≡ Ok n) × (work_for n ≤ length work) × ((τ : Ty) → ¬ Has empty (exp_of words) τ)

  module _ (out : List ℕ) where
    -- 7: the most general type has more words than the out slice.
    abbrev pub OutShort : Type 0
    OutShort = (n : ℕ) × (τ : Ty) × (check_of words ≡ Ok n) × (work_for n ≤ length work) × Principal empty (exp_of words) τ × (length out < length (words_of τ))

    -- 0: it fits.
    abbrev pub TypeFits : Type 0
    TypeFits = (n : ℕ) × (τ : Ty) × (check_of words ≡ Ok n) × (work_for n ≤ length work) × Principal empty (exp_of words) τ × (length (words_of τ) ≤ length out)
