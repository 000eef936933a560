-- `lent::write_bytes` meets its contract. The loop's invariant: the bytes before i are written, and the rest is as it was.
use Rattle.std.proofs.Common.{take}
use Rattle.lent.specs.Bytes.{to_bytes}
use Rattle.lent.specs.Written.{Written}
use Rattle.lent.proofs.write_bytes.Given as goal

abbrev pub invariant-loop-i : goal.invariant-loop-i
invariant-loop-i l = Written l.initial.bytes 0 (take l.i (to_bytes l.words)) l.bytes l.i
