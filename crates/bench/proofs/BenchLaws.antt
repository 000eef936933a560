-- A row whose numbers the definitions compute holds of the calls: no answer that inference or a run may give has a different line.
use Rattle.std.specs.Prelude.{ℕ, ◌≤◌, ◌≡◌, refl, Ok, List, [], ◌∷◌, map, length, take, drop}
use Rattle.std.proofs.Common.{◌∙◌, ap, arith}
use Rattle.std.proofs.lemmas.List.{length-replicate}
use Rattle.std.proofs.Math.Seq.{take-append_seam}
use Rattle.lent.specs.Cleared.{zeros}
use Rattle.table.specs.Node.{count_of}
use Rattle.acceptance.specs.Refusals.{check_of}
use Rattle.acceptance.specs.Accepted.{accepted_is_checked, count_is}
use Rattle.inference.specs.Inference.{work_for, with_type, After, Infers, turned, work_short, no_type, out_short, typed}
use Rattle.inference.specs.Textbook.{infers_textbook}
use Rattle.bench.specs.Bench.{Call, inference, run, Row, type_numbers, as_far, InferenceGives, CallGives, Holds, Each}
use Rattle.bench.specs.Computed.{line_of, computed}

-- ---- Inference: of the lent slices, its line depends on the lengths only

written_type_is_read : (type out : List ℕ) → take (length type) (with_type type out) ≡ type
written_type_is_read type out = take-append_seam type (drop (length type) out)

module _ (words : List ℕ) where
  accepted_count : {n : ℕ} → check_of words ≡ Ok n → count_of words ≡ n
  accepted_count {n} v = count_is (accepted_is_checked words n v)

  zeros_are_enough : {n : ℕ} → check_of words ≡ Ok n → work_for n ≤ length (zeros (work_for (count_of words)))
  zeros_are_enough v = rw (length-replicate, accepted_count v) (omega arith)

  module _ (room : ℕ) where
    line_of_textbook : {a : After} → Infers words (zeros (work_for (count_of words))) (zeros room) a → type_numbers a ≡ line_of words (inference room)
    line_of_textbook i = ap type_numbers (infers_textbook i)

    module _ {work out : List ℕ} (enough : work_for (count_of words) ≤ length work) (lent : length out ≡ length (zeros room)) where
      line_by_lengths : {a : After} → Infers words work out a → type_numbers a ≡ line_of words (inference room)
      line_by_lengths (turned v is) = rw is (line_of_textbook (turned v refl))
      line_by_lengths (work_short v short is) = absurd (let c = accepted_count v in omega (arith, c, short, enough))
      line_by_lengths (no_type v _ untyped is) = rw is (line_of_textbook (no_type v (zeros_are_enough v) untyped refl))
      line_by_lengths (out_short v _ p short is) = rw is (line_of_textbook (out_short v (zeros_are_enough v) p (rw lent at short) refl))
      line_by_lengths (typed v _ p fits is) = rw (is, written_type_is_read) (rw written_type_is_read at (line_of_textbook (typed v (zeros_are_enough v) p (rw lent at fits) refl)))

    computed_inference_gives : (stated : List ℕ) → as_far stated (line_of words (inference room)) ≡ stated → InferenceGives words room stated
    computed_inference_gives stated c = record { always = λ enough l i. ap (as_far stated) (line_by_lengths enough (rw length-replicate l) i) ∙ c }

-- ---- All rows

computed_call_gives : (words : List ℕ) (call : Call) (stated : List ℕ) → as_far stated (line_of words call) ≡ stated → CallGives words call stated
computed_call_gives words (inference out) stated c = computed_inference_gives words out stated c
computed_call_gives words (run fuel bindings frames) stated c = record { always = λ b f ran. rw (ran.answer, b, f) c }

computed_row_holds : (row : Row) → computed row ≡ row.stated → Holds row
unfolding computed
computed_row_holds row c = computed_call_gives row.table row.call row.stated c

pub computed_rows_hold : (rows : List Row) → map computed rows ≡ map (λ row. row.stated) rows → Each Holds rows
computed_rows_hold [] c = tt
computed_rows_hold (row ∷ rows) c = (computed_row_holds row (cc), computed_rows_hold rows (cc))
