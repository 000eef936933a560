-- `acceptance::nodes::Nodes::check_tree` meets its contract: code 3, or what the names give.
use Rattle.std.proofs.Common.{sym, ◌∙◌}
use Rattle.acceptance.specs.Stages.{handed_up, parents_halt, after_parents}
use Rattle.acceptance.proofs.nodes.Nodes.check_tree.Goals as goal

pub returns-in_err-rooted : goal.returns-in_err-rooted
returns-in_err-rooted c = handed_up c.from_residual.ensures.1 ∙ parents_halt _ _ c.rooted.ensures c.in_err-rooted.was

pub returns : goal.returns
returns c = c.names.ensures ∙ sym (after_parents _ _ c.rooted.ensures c.in_ok-rooted.was)
