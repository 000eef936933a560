-- `inference::infer` meets its contract: a refusal of the check is handed up.
use Rattle.std.proofs.Common.{sym, ◌∙◌}
use Rattle.inference.specs.InferCall.{refused_answer}
use Rattle.inference.proofs.infer.Goals as goal

pub returns-in_err-n : goal.returns-in_err-n
returns-in_err-n c = refused_answer (sym c.check.ensures ∙ c.in_err-n.was) c.from_residual.ensures.1
