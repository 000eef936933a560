-- What fuel and room do to a run, for any machine: the end that the machine comes to without limits has a least room. With at least that a
-- run comes to the end, with its counts; every other run names what ran out.
use Prim.Native.Nat.{ℕ, zero, suc, ◌+◌, max, ◌≤◌}
use Rattle.std.proofs.Math.Path.{◌≡◌, refl}
use Rattle.std.proofs.Common.{sym, ◌∙◌, ap, subst, inl, inr, zero-add, lt-ltb, ltb-true}
use Rattle.std.specs.Prelude.{Bool, true, false, ◌⊎◌, ltb}
use native.Mathlib.Omega.{arith}
use Rattle.semantics.specs.Limits.{Need, nothing, a_binding, a_frame, Next, at_end, last_step, steps_to, Limit, fuel_limit, binding_limit, frame_limit}
use Rattle.semantics.specs.Limits.{How, ended, ran_out, Course, Room, ran, if_free, without_fuel, with_fuel, run_from, run, AtLeast}
use Rattle.semantics.specs.ComesTo.{bindings_for}
use Rattle.semantics.specs.EndsIn.{EndsIn, here, by_last_step, later}

with_counts : {E : Type 0} {r : Course E} {h : How E} {n n' m m' : ℕ} → r ≡ ran h n m → (n ≡ n') × (m ≡ m') → r ≡ ran h n' m'
with_counts p q = cc

abbrev room_of : ℕ → ℕ → ℕ → Room
room_of fuel bindings frames = record { fuel = fuel; bindings = bindings; frames = frames }

module _ {S E : Type 0} (next : S → Next S E) (in_use : S → ℕ) where
  -- ---- The least room

  -- The frames that there must be for a step where so many are in use.
  abbrev frames_at : Need → ℕ → ℕ
  frames_at nothing used = 0
  frames_at a_binding used = 0
  frames_at a_frame used = suc used

  pub most_frames : {s : S} {e : E} {n m : ℕ} → EndsIn next s e n m → ℕ
  most_frames (here p) = 0
  most_frames (by_last_step p) = 0
  most_frames (later {s = s} {need = need} p d) = max (frames_at need (in_use s)) (most_frames d)

  -- The steps, the bindings, and the most frames that a step of the run needs.
  abbrev pub least_room : {s : S} {e : E} {n m : ℕ} → EndsIn next s e n m → Room
  least_room {n = n} {m = m} d = room_of n m (most_frames d)

  module _ (room : Room) where
    -- ---- It is enough

    -- Where what a step needs is free, the step is made.
    goes_on : (need : Need) (s : S) (used steps made : ℕ) (onwards : ℕ → S → Course E) → bindings_for need + made ≤ room.bindings → frames_at need used ≤ room.frames
        → with_fuel (steps_to need s) room used steps made onwards ≡ onwards (bindings_for need + made) s
    goes_on nothing s used steps made onwards h g = ap (λ k. onwards k s) (omega arith)
    goes_on a_binding s used steps made onwards h g = rw (lt-ltb made room.bindings (omega arith)) (ap (λ k. onwards k s) (omega arith))
    goes_on a_frame s used steps made onwards h g = rw (lt-ltb used room.frames g) (ap (λ k. onwards k s) (omega arith))

    enough_from : {s : S} {e : E} {n m : ℕ} (d : EndsIn next s e n m) (left steps made : ℕ)
        → AtLeast (room_of n (made + m) (most_frames d)) (room_of left room.bindings room.frames)
        → run_from next in_use room left steps made s ≡ ran (ended e) (steps + n) (made + m)
    unfolding run_from most_frames
    enough_from (here p) zero steps made h = rw p (with_counts refl (omega arith))
    enough_from (here p) (suc left) steps made h = rw p (with_counts refl (omega arith))
    enough_from (by_last_step p) zero steps made h = absurd (omega arith)
    enough_from (by_last_step p) (suc left) steps made h = rw p (with_counts refl (omega arith))
    enough_from (later p d) zero steps made h = absurd (omega arith)
    enough_from (later {s = s} {s' = s'} {need = need} p d) (suc left) steps made h =
        rw (p, goes_on need s' (in_use s) steps made (λ made' t. run_from next in_use room left (suc steps) made' t) (omega arith) (omega arith))
        (with_counts (enough_from d left (suc steps) (bindings_for need + made) (omega arith)) (omega arith))

    -- ---- It is needed

    -- A run that comes to an end has passed each test.
    free_if_ended : (free : Bool) (l : Limit) (steps made : ℕ) (r : Course E) {e : E} → (if_free free l steps made (λ _. r)).how ≡ ended e → (free ≡ true) × (r.how ≡ ended e)
    free_if_ended true l steps made r h = (refl, h)
    free_if_ended false l steps made r h = absurd (let z : ◌≡◌ {A = ℕ} 0 1 = cc in omega arith)

    went_on : (need : Need) (s : S) (used steps made : ℕ) (onwards : ℕ → S → Course E) {e : E} → made ≤ room.bindings → (with_fuel (steps_to need s) room used steps made onwards).how ≡ ended e
        → (bindings_for need + made ≤ room.bindings) × (frames_at need used ≤ room.frames) × ((onwards (bindings_for need + made) s).how ≡ ended e)
    went_on nothing s used steps made onwards {e} w h = (omega arith, omega arith, subst (λ k. (onwards k s).how ≡ ended e) (omega arith) h)
    went_on a_binding s used steps made onwards {e} w h =
        let (free, on) = free_if_ended (ltb made room.bindings) binding_limit steps made (onwards (suc made) s) h in
        (omega (arith, ltb-true made room.bindings free), omega arith, subst (λ k. (onwards k s).how ≡ ended e) (omega arith) on)
    went_on a_frame s used steps made onwards {e} w h =
        let (free, on) = free_if_ended (ltb used room.frames) frame_limit steps made (onwards made s) h in
        (omega arith, ltb-true used room.frames free, subst (λ k. (onwards k s).how ≡ ended e) (omega arith) on)

    needed_from : {s : S} {e e' : E} {n m : ℕ} (d : EndsIn next s e n m) (left steps made : ℕ) → made ≤ room.bindings → (run_from next in_use room left steps made s).how ≡ ended e'
        → AtLeast (room_of n (made + m) (most_frames d)) (room_of left room.bindings room.frames)
    unfolding run_from most_frames
    needed_from (here p) left steps made w h = omega arith
    needed_from (by_last_step p) zero steps made w h = absurd (let q = rw p at h in let z : ◌≡◌ {A = ℕ} 0 1 = cc in omega arith)
    needed_from (by_last_step p) (suc left) steps made w h = omega arith
    needed_from (later p d) zero steps made w h = absurd (let q = rw p at h in let z : ◌≡◌ {A = ℕ} 0 1 = cc in omega arith)
    needed_from (later {s = s} {s' = s'} {need = need} p d) (suc left) steps made w h =
        let (bindings, frames, on) = went_on need s' (in_use s) steps made (λ made' t. run_from next in_use room left (suc steps) made' t) w (rw p at h) in
        let rest = needed_from d left (suc steps) (bindings_for need + made) bindings on in
        omega (arith, rest.fuel, rest.bindings, rest.frames)

  module _ {s : S} {e : E} {n m : ℕ} (d : EndsIn next s e n m) (r : Room) where
    -- With at least that room a run comes to the end, with its counts.
    pub enough : AtLeast (least_room d) r → run next in_use r s ≡ ran (ended e) n m
    enough h = with_counts (enough_from r d r.fuel 0 0 (omega arith)) (omega arith)

    -- A run that comes to an end has at least that room.
    pub needed : {e' : E} → (run next in_use r s).how ≡ ended e' → AtLeast (least_room d) r
    needed h = let x = needed_from r d r.fuel 0 0 (omega arith) h in omega (arith, x.fuel, x.bindings, x.frames)

  -- A state comes to one end, with one count of steps and of bindings: both are what one large run gives.
  pub ends_once : {s : S} {e e' : E} {n n' m m' : ℕ} → EndsIn next s e n m → EndsIn next s e' n' m' → (e ≡ e') × (n ≡ n') × (m ≡ m')
  ends_once d d' =
      let r = least_room d in
      let r' = least_room d' in
      let large : Room = room_of (max r.fuel r'.fuel) (max r.bindings r'.bindings) (max r.frames r'.frames) in
      let q = sym (enough d large (omega arith)) ∙ enough d' large (omega arith) in
      let q₀ = ap (λ x. x.how) q in
      (cc, ap (λ x. x.steps) q, ap (λ x. x.made) q)

  -- ---- Every run is that end or names what ran out

  -- How a run from s went that had made so many steps and bindings before: to the end of the machine without limits, or it ran out.
  data EndOrLimit (s : S) (steps made : ℕ) (r : Course E) : Type 0 where
    comes_to_end : {e : E} {n m : ℕ} → EndsIn next s e n m → r ≡ ran (ended e) (steps + n) (made + m) → EndOrLimit s steps made r
    runs_out : (l : Limit) → r.how ≡ ran_out l → EndOrLimit s steps made r

  test_keeps_outcome : {s : S} {steps made : ℕ} {r : Course E} (b : Bool) (l : Limit) → EndOrLimit s steps made r → EndOrLimit s steps made (if_free b l steps made (λ _. r))
  test_keeps_outcome true l o = o
  test_keeps_outcome false l o = runs_out l refl

  step_keeps_outcome : {s s' : S} {steps made made' : ℕ} {r : Course E} {need : Need} → next s ≡ steps_to need s' → made' ≡ bindings_for need + made
      → EndOrLimit s' (suc steps) made' r → EndOrLimit s steps made r
  step_keeps_outcome p q (comes_to_end d h) = comes_to_end (later p d) (with_counts h (omega arith))
  step_keeps_outcome p q (runs_out l h) = runs_out l h

  module _ (room : Room) where
    outcome : (left steps made : ℕ) (s : S) → EndOrLimit s steps made (run_from next in_use room left steps made s)
    unfolding run_from
    outcome zero steps made s = go (next s) refl
      where
        go : (x : Next S E) → next s ≡ x → EndOrLimit s steps made (without_fuel x steps made)
        go (at_end e) p = comes_to_end (here p) (with_counts refl (omega arith))
        go (last_step e) p = runs_out fuel_limit refl
        go (steps_to need s') p = runs_out fuel_limit refl
    outcome (suc left) steps made s = go (next s) refl (λ made' s'. outcome left (suc steps) made' s')
      where
        go : (x : Next S E) → next s ≡ x → ((made' : ℕ) (s' : S) → EndOrLimit s' (suc steps) made' (run_from next in_use room left (suc steps) made' s'))
            → EndOrLimit s steps made (with_fuel x room (in_use s) steps made (λ made' s'. run_from next in_use room left (suc steps) made' s'))
        go (at_end e) p on = comes_to_end (here p) (with_counts refl (omega arith))
        go (last_step e) p on = comes_to_end (by_last_step p) (with_counts refl (omega arith))
        go (steps_to nothing s') p on = step_keeps_outcome p (omega arith) (on made s')
        go (steps_to a_binding s') p on = test_keeps_outcome (ltb made room.bindings) binding_limit (step_keeps_outcome p (omega arith) (on (suc made) s'))
        go (steps_to a_frame s') p on = test_keeps_outcome (ltb (in_use s) room.frames) frame_limit (step_keeps_outcome p (omega arith) (on made s'))

  -- All other fuel and room give the same end and counts, or the run names what ran out.
  pub ended_or_ran_out : {s : S} {e : E} {n m : ℕ} → EndsIn next s e n m → (r : Room)
      → (run next in_use r s ≡ ran (ended e) n m) ⊎ ((l : Limit) × ((run next in_use r s).how ≡ ran_out l))
  ended_or_ran_out {s} d r = elim (outcome r r.fuel 0 0 s) [
    | comes_to_end d' p ↦ let (q, q₁, q₂) = ends_once d d' in inl (rw q (with_counts p (omega arith)))
    | runs_out l p ↦ inr (l, p)
  ]

  -- An end of a limited run is the end of the machine without limits.
  pub ended_is_end : (r : Room) (s : S) {e : E} → (run next in_use r s).how ≡ ended e → EndsIn next s e (run next in_use r s).steps (run next in_use r s).made
  ended_is_end r s {e} h = elim (outcome r r.fuel 0 0 s) [
    | comes_to_end {e = e'} d p ↦ let q : e ≡ e' = cc in rw (p, q) (simp zero-add d)
    | runs_out l p ↦ absurd (let z : ◌≡◌ {A = ℕ} 0 1 = cc in omega arith)
  ]
