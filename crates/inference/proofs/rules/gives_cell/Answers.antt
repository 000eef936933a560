-- `inference::rules::gives_cell` meets its contract.
use Rattle.std.proofs.Common.{le-ltb, lt-ltb, refl}
use Rattle.inference.proofs.rules.gives_cell.Goals as goal

pub returns-then-o-lt5 : goal.returns-then-o-lt5
returns-then-o-lt5 c = rw (lt-ltb c.args.o 5 c.if-o-lt5.true) refl

pub returns-else-o-lt5 : goal.returns-else-o-lt5
returns-else-o-lt5 c = rw (le-ltb c.args.o 5 c.if-o-lt5.false) refl
