-- A test as a number: 1 where it holds, 0 where it does not.
use Rattle.std.specs.Prelude.{ℕ, Bool, true, false}

abbrev pub once : Bool → ℕ
once true = 1
once false = 0
