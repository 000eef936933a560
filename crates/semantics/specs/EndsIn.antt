-- Runs without limits: from a state the machine comes to an end, after so many steps and bindings.
use Rattle.std.specs.Prelude.{ℕ, suc, ◌+◌, ◌≡◌}
use Rattle.semantics.specs.ComesTo.{bindings_for}
use Rattle.semantics.specs.Limits.{Need, nothing, a_binding, a_frame, Next, at_end, last_step, steps_to}

abbrev pub frames_for : Need → ℕ
frames_for nothing = 0
frames_for a_binding = 0
frames_for a_frame = 1

pub data EndsIn {S E : Type 0} (next : S → Next S E) : S → E → ℕ → ℕ → Type 0 where
  here : {s : S} {e : E} → next s ≡ at_end e → EndsIn next s e 0 0
  by_last_step : {s : S} {e : E} → next s ≡ last_step e → EndsIn next s e 1 0
  later : {s s' : S} {e : E} {need : Need} {n m : ℕ} → next s ≡ steps_to need s' → EndsIn next s' e n m → EndsIn next s e (suc n) (bindings_for need + m)
