-- `acceptance::nodes::Nodes::check` meets its contract: code 2, or what the tree gives.
use Rattle.std.proofs.Common.{sym, ◌∙◌}
use Rattle.acceptance.specs.Stages.{handed_up, fields_halt, after_fields}
use Rattle.acceptance.proofs.nodes.Nodes.check.Goals as goal

pub returns-in_err-fields : goal.returns-in_err-fields
returns-in_err-fields c = handed_up c.from_residual.ensures.1 ∙ fields_halt c.args.self.now.words.now _ c.fields.ensures c.in_err-fields.was

pub returns : goal.returns
returns c = c.check_tree.ensures ∙ sym (after_fields c.args.self.now.words.now _ c.fields.ensures c.in_ok-fields.was)
