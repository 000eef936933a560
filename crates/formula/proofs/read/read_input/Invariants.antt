-- `formula::read::read_input` meets its contract. The loop's invariant: the scan went through all pieces so far.
use Rattle.std.proofs.Common.{◌+◌}
use Rattle.decimal.specs.State.{state}
use Rattle.formula.specs.ReadingLaws.{ReadSoFar}
use Rattle.formula.proofs.read.read_input.Given as goal

abbrev pub invariant-loop : goal.invariant-loop
invariant-loop g l = ReadSoFar (l.counter + 1) l.got (state l.scan)
