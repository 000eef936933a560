-- What the definitions compute for a row.
use Rattle.std.specs.Prelude.{ℕ, List}
use Rattle.language.specs.Integers.{meaning}
use Rattle.language.specs.WrittenForm.{is_among, appearing, place_in, spell, words_of}
use Rattle.lent.specs.Cleared.{zeros}
use Rattle.table.specs.Node.{node_of, node_at, count_of}
use Rattle.acceptance.specs.Refusals.{fits_rule, times_below, first_from, check_of}
use Rattle.semantics.specs.Limits.{run_from}
use Rattle.semantics.specs.Machine.{newest_binding}
use Rattle.semantics.specs.Answer.{run_nodes}
use Rattle.machine.specs.Runs.{ran_of, run_after}
use Rattle.equations.specs.Inferred.{inferred}
use Rattle.inference.specs.Inference.{work_for}
use Rattle.inference.specs.Textbook.{textbook}
use Rattle.bench.specs.Bench.{Call, inference, run, Row, type_numbers, run_numbers, as_far}

-- Inference by the textbook's unification, and the run by the machine's definition.
abbrev pub line_of : List ℕ → Call → List ℕ
line_of words (inference out) = type_numbers (textbook words (zeros (work_for (count_of words))) (zeros out))
line_of words (run fuel bindings frames) = run_numbers (run_after (check_of words) (ran_of words fuel bindings frames))

-- To unfold it is to unfold all that it computes with.
unfoldable pub computed : Row → List ℕ
unfolding textbook check_of fits_rule times_below first_from inferred node_at node_of words_of spell appearing place_in is_among run_nodes run_from newest_binding meaning
computed row = as_far row.stated (line_of row.table row.call)
