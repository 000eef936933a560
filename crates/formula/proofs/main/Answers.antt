-- `formula::main` is safe, and prints only what answers the input.
use Rattle.formula.specs.WholeInput.{read_and_answered}
use Rattle.formula.proofs.main.Goals as goal

pub print-requires : goal.print-requires
print-requires c = read_and_answered c.read_input-got.ensures c.respond-text.ensures
