-- `acceptance::check` meets its contract: code 1, or what the nodes give.
use Rattle.std.proofs.Common.{sym, ◌∙◌}
use Rattle.acceptance.specs.Stages.{handed_up, count_halts, after_count}
use Rattle.acceptance.proofs.check.Goals as goal

pub returns-in_err-count : goal.returns-in_err-count
returns-in_err-count c = handed_up c.from_residual.ensures.1 ∙ count_halts c.args.words.now c.count.ensures c.in_err-count.was

pub returns : goal.returns
returns c = c.check.ensures ∙ sym (after_count c.args.words.now c.count.ensures c.in_ok-count.was)
