-- A run that ran out stopped for what it names, for any machine whose steps add a frame only where they need one.
use Prim.Native.Nat.{ℕ, zero, suc, ◌+◌, ◌<◌, ◌≤◌}
use Rattle.std.specs.Prelude.{◌≡◌, ◌≢◌, Bool, true, false, ltb}
use Rattle.std.proofs.Math.Path.{refl}
use Rattle.std.proofs.Common.{sym, subst, arith, ltb-true, ltb-false}
use Rattle.semantics.specs.Limits.{Need, nothing, a_binding, a_frame, Next, at_end, last_step, steps_to, Limit, fuel_limit, binding_limit}
use Rattle.semantics.specs.Limits.{frame_limit, ended, ran_out, Course, Room, ran, if_free, without_fuel, with_fuel, run_from, run}
use Rattle.semantics.specs.EndsIn.{frames_for}
use Rattle.semantics.specs.ComesTo.{bindings_for, ComesTo, at_first, then_to}
use Rattle.semantics.specs.StopsFor.{fuel_used_up, bindings_full, frames_full, StopsFor}

pub record FrameByFrame {S E : Type 0} (next : S → Next S E) (in_use : S → ℕ) : Type 0 where
  pub adds : {s s' : S} {need : Need} → next s ≡ steps_to need s' → in_use s' ≤ frames_for need + in_use s

module _ {S E : Type 0} {next : S → Next S E} {in_use : S → ℕ} (frame_by_frame : FrameByFrame next in_use) (room : Room) (first : S) where
  abbrev Stops : ℕ → ℕ → Limit → Type 0
  Stops steps made limit = StopsFor next in_use room first steps made limit

  data EndsOrStops : Course E → Type 0 where
    ends : {e : E} {steps made : ℕ} → EndsOrStops (ran (ended e) steps made)
    stops : {limit : Limit} {steps made : ℕ} → Stops steps made limit → EndsOrStops (ran (ran_out limit) steps made)

  -- The run has come to s within its room, and so much fuel is left.
  record SoFar (left steps made : ℕ) (s : S) : Type 0 where
    comes_to : ComesTo next first s steps made
    fuel : steps + left ≡ room.fuel
    bindings : made ≤ room.bindings
    frames : in_use s ≤ room.frames

  one_more : {left steps made made' : ℕ} {s s' : S} {need : Need} → SoFar (suc left) steps made s → next s ≡ steps_to need s' → made' ≡ bindings_for need + made →
      made' ≤ room.bindings → frames_for need + in_use s ≤ room.frames → SoFar left (suc steps) made' s'
  one_more {steps = steps} {s' = s'} so p made_is bindings frames =
      record {
        comes_to = subst (ComesTo next first s' (suc steps)) (sym made_is) (then_to so.comes_to p);
        fuel = omega (arith, so.fuel);
        bindings = bindings;
        frames = omega (arith, frame_by_frame.adds p);
      }

  test : {used capacity steps made : ℕ} {limit : Limit} {r : Course E} (free : Bool) → ltb used capacity ≡ free → used ≤ capacity → (used < capacity → EndsOrStops r) →
      (used ≡ capacity → Stops steps made limit) → EndsOrStops (if_free free limit steps made (λ _. r))
  test {used} {capacity} true is within onwards full = onwards (ltb-true used capacity is)
  test {used} {capacity} false is within onwards full = stops (full (omega (arith, ltb-false used capacity is)))

  ends_or_stops : (left steps made : ℕ) (s : S) → SoFar left steps made s → EndsOrStops (run_from next in_use room left steps made s)
  unfolding run_from
  ends_or_stops zero steps made s so = go (next s) refl
    where
      used_up : ((e : E) → next s ≢ at_end e) → Stops steps made fuel_limit
      used_up no_end = fuel_used_up so.comes_to no_end (omega (arith, so.fuel))

      go : (x : Next S E) → next s ≡ x → EndsOrStops (without_fuel x steps made)
      go (at_end e) p = ends
      go (last_step e) p = stops (used_up (λ e' q. let z : ◌≡◌ {A = ℕ} 0 1 = cc in omega arith))
      go (steps_to need s') p = stops (used_up (λ e' q. let z : ◌≡◌ {A = ℕ} 0 1 = cc in omega arith))
  ends_or_stops (suc left) steps made s so = go (next s) refl (λ made' s' so'. ends_or_stops left (suc steps) made' s' so')
    where
      fuel_left : steps < room.fuel
      fuel_left = omega (arith, so.fuel)

      go : (x : Next S E) → next s ≡ x → ((made' : ℕ) (s' : S) → SoFar left (suc steps) made' s' → EndsOrStops (run_from next in_use room left (suc steps) made' s')) →
          EndsOrStops (with_fuel x room (in_use s) steps made (λ made' s'. run_from next in_use room left (suc steps) made' s'))
      go (at_end e) p on = ends
      go (last_step e) p on = ends
      go (steps_to nothing s') p on = on made s' (one_more so p (omega arith) so.bindings (omega (arith, so.frames)))
      go (steps_to a_binding s') p on =
          test (ltb made room.bindings) refl so.bindings
          (λ free. on (suc made) s' (one_more so p (omega arith) free (omega (arith, so.frames))))
          (bindings_full so.comes_to p fuel_left)
      go (steps_to a_frame s') p on =
          test (ltb (in_use s) room.frames) refl so.frames
          (λ free. on made s' (one_more so p (omega arith) so.bindings (omega arith)))
          (frames_full so.comes_to p fuel_left)

  stops_for : {r : Course E} {limit : Limit} → EndsOrStops r → r.how ≡ ran_out limit → Stops r.steps r.made limit
  stops_for ends is = absurd (let z : ◌≡◌ {A = ℕ} 0 1 = cc in omega arith)
  stops_for {limit = limit} (stops {limit = named} {steps = steps} {made = made} x) is = let same : named ≡ limit = cc in subst (Stops steps made) same x

  pub ran_out_stops_for : {limit : Limit} → in_use first ≡ 0 → (run next in_use room first).how ≡ ran_out limit →
      StopsFor next in_use room first (run next in_use room first).steps (run next in_use room first).made limit
  ran_out_stops_for none_in_use =
      let at_start : SoFar room.fuel 0 0 first = record { comes_to = at_first; fuel = omega arith; bindings = omega arith; frames = omega arith } in
      stops_for (ends_or_stops room.fuel 0 0 first at_start)

-- ---- What it lacks

module _ {S E : Type 0} {next : S → Next S E} {in_use : S → ℕ} {room : Room} {first : S} {steps made : ℕ} where
  -- All fuel is used up, and the state has not come to an end.
  pub fuel_limit_means : StopsFor next in_use room first steps made fuel_limit → (steps ≡ room.fuel) × (s : S) × ComesTo next first s steps made × ((e : E) → next s ≢ at_end e)
  fuel_limit_means (fuel_used_up to no_end fuel) = (fuel, _, to, no_end)

  -- There is fuel, all bindings are made, and the next step needs one.
  pub binding_limit_means : StopsFor next in_use room first steps made binding_limit →
      (steps < room.fuel) × (made ≡ room.bindings) × (s : S) × ComesTo next first s steps made × (s' : S) × (next s ≡ steps_to a_binding s')
  binding_limit_means (bindings_full to needs fuel full) = (fuel, full, _, to, _, needs)

  -- There is fuel, all frames are in use, and the next step needs one.
  pub frame_limit_means : StopsFor next in_use room first steps made frame_limit →
      (steps < room.fuel) × (s : S) × ComesTo next first s steps made × (in_use s ≡ room.frames) × (s' : S) × (next s ≡ steps_to a_frame s')
  frame_limit_means (frames_full to needs fuel full) = (fuel, _, to, full, _, needs)
