use Rattle.std.proofs.Common.{arith, sym, ◌∙◌}
use Rattle.formula.specs.ReadingLaws.{read_first, read_next, read_over, no_turn_left}
use Rattle.formula.proofs.read.read_input.Goals as goal

pub loop-init : goal.loop-init
loop-init g c = read_first c.requires.1 c.read_piece-got.ensures

pub loop-preserved : goal.loop-preserved
loop-preserved g c =
    read_next c.loop.invariant (sym c.reads_on.ensures ∙ c.if-not-reads_on.false) c.read_piece-got-in-loop.ensures

pub returns-then-not-reads_on : goal.returns-then-not-reads_on
returns-then-not-reads_on g c = read_over c.loop.invariant (sym c.reads_on.ensures ∙ c.if-not-reads_on.true)

pub returns-after-loop : goal.returns-after-loop
returns-after-loop g c = no_turn_left c.loop.invariant (omega arith)
