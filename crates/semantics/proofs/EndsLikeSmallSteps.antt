-- The machine without limits ends exactly where the small steps of the formula end, and as they do.
use Rattle.std.specs.Prelude.{ℕ, zero, suc, ◌<◌, ◌≡◌, refl}
use Rattle.std.proofs.Common.{subst, arith}
use Rattle.language.specs.Expression.{Exp, Closed}
use Rattle.language.specs.SmallStep as Small
use Rattle.language.specs.SmallStep.{Steps, done, then}
use Rattle.language.proofs.Determinism.{steps_are_deterministic}
use Rattle.language.proofs.ClosedSteps.{step_stays_closed}
use Rattle.table.specs.Node.{Nodes}
use Rattle.table.specs.ExpressionOf.{exp_at}
use Rattle.table.specs.Tree.{ClosedTree}
use Rattle.table.specs.ClosedFormula.{root_closed}
use Rattle.semantics.specs.Limits.{Need, at_end, last_step, steps_to}
use Rattle.semantics.specs.Machine.{State, End, Step, next, start}
use Rattle.semantics.specs.Answer.{DefinedAnswer, end_answer}
use Rattle.semantics.specs.EndsIn.{EndsIn, here, by_last_step, later}
use Rattle.semantics.specs.SmallEnd.{EndsAs}
use Rattle.semantics.proofs.SmallEndLaws.{Final, Alike, ends_before, final_has_no_next, small_end_unique, ends_at_a_final}
use Rattle.semantics.proofs.Close.{close_nothing}
use Rattle.semantics.proofs.Standing.{StateFor, evaluating, nothing_bound, nothing_around, state_work}
use Rattle.semantics.proofs.Simulation.{Simulates, at_its_end, at_last, no_small_step, small_step, simulated}

module _ {nd : Nodes} {n : ℕ} (t : ClosedTree nd n) where
  start_stands : StateFor nd n start (exp_at nd n 0)
  start_stands = subst (StateFor nd n start) (close_nothing (exp_at nd n 0)) (evaluating t.tree.root nothing_bound nothing_around)

  -- ---- What the machine ends in is how the small steps end

  at_end_ends : {e : Exp} {left : ℕ} {end : End} → Simulates nd n e left (at_end end) → EndsAs e (end_answer end)
  at_end_ends (at_its_end d) = d

  last_step_ends : {e : Exp} {left : ℕ} {end : End} → Simulates nd n e left (last_step end) → EndsAs e (end_answer end)
  last_step_ends (at_last d) = d

  step_ends : {e : Exp} {left : ℕ} {need : Need} {s : State} {a : DefinedAnswer} → Simulates nd n e left (steps_to need s) → Closed e →
      ((e' : Exp) → StateFor nd n s e' → Closed e' → EndsAs e' a) → EndsAs e a
  step_ends (no_small_step stands less) c onwards = onwards _ stands c
  step_ends (small_step d stands) c onwards = ends_before d (onwards _ stands (step_stays_closed d c))

  step_simulated : {s : State} {step : Step} {e : Exp} → next nd s ≡ step → StateFor nd n s e → Closed e → Simulates nd n e (state_work nd n s) step
  step_simulated {s} {e = e} p stands c = subst (Simulates nd n e (state_work nd n s)) p (simulated t.tree.descending stands c)

  ends_as : {s : State} {end : End} {i m : ℕ} (e : Exp) → EndsIn (next nd) s end i m → StateFor nd n s e → Closed e → EndsAs e (end_answer end)
  ends_as e (here p) stands c = at_end_ends (step_simulated p stands c)
  ends_as e (by_last_step p) stands c = last_step_ends (step_simulated p stands c)
  ends_as e (later p run) stands c = step_ends (step_simulated p stands c) c (λ e' stands' c'. ends_as e' run stands' c')

  pub ends_as_small_steps : {end : End} {i m : ℕ} → EndsIn (next nd) start end i m → EndsAs (exp_at nd n 0) (end_answer end)
  ends_as_small_steps run = ends_as (exp_at nd n 0) run start_stands (root_closed t)

  -- ---- Where the small steps end, the machine ends

  abbrev Ends : State → Type 0
  Ends s = (end : End) × (i : ℕ) × (m : ℕ) × EndsIn (next nd) s end i m

  ends_later : {s s' : State} {need : Need} → next nd s ≡ steps_to need s' → Ends s' → Ends s
  ends_later p r = (r.0, _, _, later p r.3)

  -- Less work is left at each step that is no small step, so the machine ends or comes to a small step.
  to_small_step : (more : ℕ) {s : State} {e : Exp} → state_work nd n s < more → StateFor nd n s e → Closed e →
      ((e' : Exp) (s' : State) → Small.Step e (Small.next e') → StateFor nd n s' e' → Ends s') → Ends s
  to_small_step zero less stands c onwards = absurd (omega arith)
  to_small_step (suc more) {s} {e} less stands c onwards = go (next nd s) refl (simulated t.tree.descending stands c) (λ s' h stands'. to_small_step more h stands' c onwards)
    where
      go : (step : Step) → next nd s ≡ step → Simulates nd n e (state_work nd n s) step →
          ((s' : State) → state_work nd n s' < more → StateFor nd n s' e → Ends s') → Ends s
      go (at_end end) p (at_its_end d) again = (end, 0, 0, here p)
      go (last_step end) p (at_last d) again = (end, 1, 0, by_last_step p)
      go (steps_to need s') p (no_small_step stands' h) again = ends_later p (again s' (omega arith) stands')
      go (steps_to need s') p (small_step d stands') again = ends_later p (onwards _ s' d stands')

  reached : {s : State} {e e' : Exp} → Steps e e' → Final e' → StateFor nd n s e → Closed e → Ends s
  reached {s} done final stands c = to_small_step (suc (state_work nd n s)) (omega arith) stands c (λ e' s' d stands'. absurd (final_has_no_next final d))
  reached {s} (then {e' = e₁} d ds) final stands c =
      to_small_step (suc (state_work nd n s)) (omega arith) stands c λ e₂ s' d' stands'.
      let one : e₂ ≡ e₁ = cc (steps_are_deterministic d d') in
      reached ds final (subst (StateFor nd n s') one stands') (step_stays_closed d c)

  pub small_end_is_reached : {e' : Exp} → Steps (exp_at nd n 0) e' → Final e' → (end : End) × (i : ℕ) × (m : ℕ) × EndsIn (next nd) start end i m
  small_end_is_reached ds final = reached ds final start_stands (root_closed t)

  -- ---- The end is the same one

  pub small_end_is_machine_end : {a : DefinedAnswer} → EndsAs (exp_at nd n 0) a → (end : End) × (i : ℕ) × (m : ℕ) × EndsIn (next nd) start end i m × Alike a (end_answer end)
  small_end_is_machine_end d =
      let (e', ds, final) = ends_at_a_final d in
      let (end, i, m, run) = small_end_is_reached ds final in
      (end, i, m, run, small_end_unique d (ends_as_small_steps run))
