-- `lent::read_words` meets its contract. The loop's invariant: the words before i are read, and the rest is as it was.
use Rattle.std.proofs.Common.{take}
use Rattle.lent.specs.Bytes.{from_bytes}
use Rattle.lent.specs.Written.{Written}
use Rattle.lent.proofs.read_words.Given as goal

abbrev pub invariant-loop-i : goal.invariant-loop-i
invariant-loop-i l = Written l.initial.words 0 (take l.i (from_bytes l.bytes)) l.words l.i
