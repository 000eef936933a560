-- `acceptance::rules::Rule::first_fits` meets its contract: kinds 5 and 6 have a child in field a.
use Rattle.std.proofs.Common.{arith, sym, ◌∙◌}
use Rattle.acceptance.specs.FieldRules.{first_is_child}
use Rattle.acceptance.proofs.rules.Rule.first_fits.Goals as goal

pub returns-in-5-to-6 : goal.returns-in-5-to-6
returns-in-5-to-6 c = c.is_child.ensures ∙ sym (first_is_child _ _ _ _ (omega arith) (omega arith))
