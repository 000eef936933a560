-- What it means that a run ran out, for any machine: the state to which the machine without limits comes in the steps of the run, and the
-- test before the next step that fails there.
use Rattle.std.specs.Prelude.{ℕ, ◌<◌, ◌≡◌, ◌≢◌}
use Rattle.semantics.specs.Limits.{a_binding, a_frame, Next, at_end, steps_to, Limit, fuel_limit, binding_limit, frame_limit, Room}
use Rattle.semantics.specs.ComesTo.{ComesTo}

module _ {S E : Type 0} (next : S → Next S E) (in_use : S → ℕ) (room : Room) where
  -- A run from the first state, after so many steps and bindings, stops before the next step, and the test of this limit is the first that
  -- fails there.
  pub data StopsFor (first : S) (steps made : ℕ) : Limit → Type 0 where
    fuel_used_up : {s : S} → ComesTo next first s steps made → ((e : E) → next s ≢ at_end e) → steps ≡ room.fuel → StopsFor first steps made fuel_limit
    bindings_full : {s s' : S} → ComesTo next first s steps made → next s ≡ steps_to a_binding s' → steps < room.fuel → made ≡ room.bindings → StopsFor first steps made binding_limit
    frames_full : {s s' : S} → ComesTo next first s steps made → next s ≡ steps_to a_frame s' → steps < room.fuel → in_use s ≡ room.frames → StopsFor first steps made frame_limit
