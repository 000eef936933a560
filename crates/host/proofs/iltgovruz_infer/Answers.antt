-- `host::iltgovruz_infer` meets its contract.
use Rattle.std.proofs.Common.{length-take-le, sym}
use Rattle.host.specs.TableWords.{infer_answered}
use Rattle.host.proofs.iltgovruz_infer.Goals as goal

pub slice_bounds-infer_words-end : goal.slice_bounds-infer_words-end
slice_bounds-infer_words-end c = sym (length-take-le _ _ c.read_table-n.ensures.within)

pub returns : goal.returns
returns c =
    infer_answered c.read_table-n.ensures c.infer_words.ensures
