-- `inference::principal` meets its contract.
use Rattle.inference.specs.Principality.{found_written}
use Rattle.inference.proofs.principal.Goals as goal

pub returns : goal.returns
returns c = rw c.ok_or.ensures.value (found_written c.in_ok-types.ensures c.write_type.ensures)
