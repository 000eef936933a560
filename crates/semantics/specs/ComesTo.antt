-- The machine without limits on its way, for any machine.
use Rattle.std.specs.Prelude.{ℕ, suc, ◌+◌, ◌≡◌}
use Rattle.semantics.specs.Limits.{Need, nothing, a_binding, a_frame, Next, steps_to}

abbrev pub bindings_for : Need → ℕ
bindings_for nothing = 0
bindings_for a_binding = 1
bindings_for a_frame = 0

-- It comes from one state to another, after so many steps and bindings.
pub data ComesTo {S E : Type 0} (next : S → Next S E) (first : S) : S → ℕ → ℕ → Type 0 where
  at_first : ComesTo next first first 0 0
  then_to : {s s' : S} {need : Need} {n m : ℕ} → ComesTo next first s n m → next s ≡ steps_to need s' → ComesTo next first s' (suc n) (bindings_for need + m)
