-- `trials::stores::sum` is safe: the total is below the prime.
use Rattle.std.proofs.Common.{◌<◌}
use Rattle.trials.proofs.stores.sum.Given as goal

abbrev pub invariant-loop-word : goal.invariant-loop-word
invariant-loop-word l = l.total < 4294967311
