-- `host::iltgovruz_run` meets its contract.
use Rattle.std.proofs.Common.{length-take-le, sym}
use Rattle.host.specs.TableWords.{run_answered}
use Rattle.host.proofs.iltgovruz_run.Goals as goal

pub slice_bounds-run_words-end : goal.slice_bounds-run_words-end
slice_bounds-run_words-end c = sym (length-take-le _ _ c.read_table-n.ensures.within)

pub returns : goal.returns
returns c = run_answered c.read_table-n.ensures c.run_words.ensures
