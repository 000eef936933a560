-- `inference::types` meets its contract.
use Rattle.inference.specs.TableLaws.{started_ready}
use Rattle.inference.specs.Principality.{clash_found, grounded_found, ungrounded_found}
use Rattle.inference.proofs.types.Goals as goal

pub nodes-requires : goal.nodes-requires
nodes-requires c = started_ready c.requires c.start.ensures

pub returns-in_err-nodes : goal.returns-in_err-nodes
returns-in_err-nodes c = clash_found c.requires c.start.ensures c.in_err-nodes.ensures c.from_residual.ensures.1

pub returns-then-grounded : goal.returns-then-grounded
returns-then-grounded c = grounded_found c.requires c.start.ensures c.in_ok-nodes.ensures c.if-grounded.ensures

pub returns-else-grounded : goal.returns-else-grounded
returns-else-grounded c = ungrounded_found c.requires c.start.ensures c.in_ok-nodes.ensures c.if-grounded.ensures
