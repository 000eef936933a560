-- The public call: the slices that it lends on, and its answer by what the check says.
use Rattle.std.specs.Prelude.{ℕ, ◌≤◌, ◌≡◌, refl, List, ◌++◌, length, take, drop, Result, Ok, Err, IsErrAnd}
use Rattle.std.proofs.Common.{sym, ◌∙◌, ap, subst, arith}
use Rattle.std.proofs.Math.Seq.{length_front}
use Rattle.lent.specs.Cleared.{zeros}
use Rattle.lent.specs.Prefix.{length_lent}
use Rattle.table.specs.Node.{node_at}
use Rattle.acceptance.specs.Refusals.{check_of}
use Rattle.table.specs.ExpressionOf.{exp_at, exp_of}
use Rattle.acceptance.specs.Checked.{Checked}
use Rattle.acceptance.specs.Accepted.{accepted_is_checked, count_is}
use Rattle.acceptance.specs.declared.Refusal.{Refusal}
use Rattle.inference.specs.TableCells.{cell_words, TreeRoom, WorkRoom}
use Rattle.inference.specs.Inference.{work_for, work_cleared, leaves, Infers, turned, no_type, out_short, typed}
use Rattle.inference.specs.OfFormula.{FormulaInfers, untyped, too_long, fitting}
use Rattle.inference.specs.declared.Untyped.{Untyped}
use Rattle.inference.specs.declared.Untyped.TheVariants.{Refused}

-- ---- Refusals handed up

pub refused_answer : {words work out : List ℕ} {refusal : Refusal} {r : Result ℕ Untyped} → check_of words ≡ Err refusal → IsErrAnd r (λ e. e ≡ Refused refusal) → Infers words work out (leaves r work out)
refused_answer {r = Ok count} checked given = absurd given
refused_answer {work = work} {out} {r = Err e} checked given = turned checked (ap (λ e. leaves (Err e) work out) given)

-- ---- The words of the cells

pub cells_within : {words work : List ℕ} {n : ℕ} → WorkRoom words n work → cell_words n ≤ length work
cells_within r = omega (arith, r.whole, r.tree_in.closed.tree.root)

pub room_for_cells : {words work : List ℕ} {n : ℕ} → WorkRoom words n work → TreeRoom words n (take (cell_words n) work)
room_for_cells {work = work} r = record { tree_in = r.tree_in; small = r.small; whole = length_lent work (cells_within r) }

-- When they are back, all words of work are cleared.
pub work_zeroed : {words work zeroed : List ℕ} {n : ℕ} → WorkRoom words n work → (part : List ℕ) → length part ≡ length (take (cell_words n) work) →
    zeroed ≡ zeros (length (part ++ drop (cell_words n) work)) → zeroed ≡ zeros (work_for n)
work_zeroed {work = work} {n = n} r part kept is = is ∙ ap zeros (length_front work part (cell_words n) kept ∙ r.whole)

-- ---- The work slice

module _ {words : List ℕ} {n : ℕ} (v : check_of words ≡ Ok n) where
  checked : Checked words n
  checked = accepted_is_checked words n v

  module _ (work : List ℕ) (enough : work_for n ≤ length work) where
    pub room_for_work : WorkRoom words n (take (work_for n) work)
    room_for_work = record {
      tree_in = record { counted = sym (count_is checked); closed = checked.closed };
      small = checked.at_most_512;
      whole = length_lent work enough;
    }

    -- What is answered of the formula is the answer to the table.
    pub answered : {out out' : List ℕ} {answer : Result ℕ Untyped} {zeroed : List ℕ} → FormulaInfers (exp_at (node_at words) n 0) out answer out' → zeroed ≡ zeros (work_for n) →
        Infers words work out (leaves answer (zeroed ++ drop (work_for n) work) out')
    answered {out} {out'} {answer} i is = rw is (go (subst (λ m. FormulaInfers (exp_at (node_at words) m 0) out answer out') (sym (count_is checked)) i))
      where
        go : FormulaInfers (exp_of words) out answer out' → Infers words work out (leaves answer (work_cleared n work) out')
        go (untyped none answer_is same) = no_type v enough none (rw (answer_is, same) refl)
        go (too_long p short answer_is same) = out_short v enough p short (rw (answer_is, same) refl)
        go (fitting p fits answer_is written) = typed v enough p fits (rw (answer_is, written) refl)
