-- Along every run of a checked table the states are in scope. So every name is found, and a run gets stuck only at an application or an if.
use Rattle.std.specs.Prelude.{ℕ, ◌<◌, refl, Bool, true, false, cond, List, [], ◌∷◌, eqb, ℤ, Some}
use Rattle.std.proofs.Math.Path.{◌≡◌}
use Rattle.std.proofs.Common.{arith}
use Rattle.language.specs.Expression.{Name, Operator, Constant, unit_element, boolean, integer, operator}
use Rattle.language.specs.Integers.{Outcome, number, truth, exception, meaning}
use Rattle.table.specs.Node.{Node, Nodes, constant_node, name_node, application_node, if_node, lambda_node, let_node, rec_node, Field, field_a, field_b, field_c, child, Kid}
use Rattle.table.specs.Scope.{binds_in, enter, scope, is_named, first_named}
use Rattle.table.specs.Tree.{ClosedTree}
use Rattle.table.specs.TreeLaws.{climb_root, climb_kid}
use Rattle.semantics.specs.Limits.{Need, nothing, at_end, last_step, steps_to}
use Rattle.semantics.specs.Machine.{Value, unit_value, boolean_value, integer_value, operator_value, operator_with, operator_with_other, closure}
use Rattle.semantics.specs.Machine.{Chain, empty, bound, rec_bound, Frame, State, evaluate, End}
use Rattle.semantics.specs.Machine.{done, stuck_at, raised_by, Step, newest_binding, evaluated, value_of_constant, with_first, resulted, completed, applied, chosen, returned, next, start}
use Rattle.semantics.specs.EndsIn.{EndsIn, here, by_last_step, later}
use Rattle.semantics.specs.StuckNodes.{ApplicationOrIf, an_application, an_if}
use Rattle.semantics.specs.InScope.{BindsValue, lambda_binds, let_binds, Follows, no_entry, value_entry, rec_entry, ValueInScope, unit_in_scope, boolean_in_scope}
use Rattle.semantics.specs.InScope.{integer_in_scope, operator_in_scope, operator_with_in_scope, operator_with_other_in_scope, closure_in_scope, EnvironmentOf, environment, inside, node_is, follows}
use Rattle.semantics.specs.InScope.{left_part_in_scope, holding_in_scope, if_frame_in_scope, let_frame_in_scope, FramesInScope, no_frame, one_more, InScope, evaluate_in_scope, return_in_scope}

-- A step leads to a state that is in scope, or to an end of which P holds.
abbrev Leads : Nodes → ℕ → (End → Type 0) → Step → Type 0
Leads nd n P (at_end e) = P e
Leads nd n P (last_step e) = P e
Leads nd n P (steps_to need s) = InScope nd n s

-- If the end is stuck, then at an application or an if.
abbrev StuckThere : Nodes → ℕ → End → Type 0
StuckThere nd n (done v) = Unit {0}
StuckThere nd n (stuck_at k) = (k < n) × ApplicationOrIf (nd k)
StuckThere nd n (raised_by x) = Unit {0}

-- ---- Values without an environment

constant_in_scope : {nd : Nodes} {n : ℕ} (c : Constant) → ValueInScope nd n (value_of_constant c)
constant_in_scope unit_element = unit_in_scope
constant_in_scope (boolean b) = boolean_in_scope
constant_in_scope (integer m) = integer_in_scope
constant_in_scope (operator o) = operator_in_scope

with_first_in_scope : {nd : Nodes} {n : ℕ} (o : Operator) (v : Value) → ValueInScope nd n (with_first o v)
with_first_in_scope o unit_value = operator_with_other_in_scope
with_first_in_scope o (boolean_value b) = operator_with_other_in_scope
with_first_in_scope o (integer_value m) = operator_with_in_scope
with_first_in_scope o (operator_value p) = operator_with_other_in_scope
with_first_in_scope o (operator_with p m) = operator_with_other_in_scope
with_first_in_scope o (operator_with_other p) = operator_with_other_in_scope
with_first_in_scope o (closure x b η) = operator_with_other_in_scope

-- ---- Looking up

named_by_value : {node : Node} {y : Name} → BindsValue node y → (x : Name) → is_named x node ≡ eqb y x
named_by_value lambda_binds x = refl
named_by_value let_binds x = refl

module _ {nd : Nodes} {n : ℕ} (P : End → Type 0) where
  -- The newest entry is the one, or else one of the others is.
  newest : (named : Bool) {s : State} (others : Step) → InScope nd n s → (named ≡ false → Leads nd n P others) → Leads nd n P (cond named (steps_to nothing s) others)
  newest true others first otherwise = first
  newest false others first otherwise = otherwise refl

  -- A name that has a binder is found, so P does not matter.
  found_in_scope : (x : Name) (at : ℕ) {b : ℕ} {frames : List Frame} (η : Chain) {ps : List ℕ} →
      Follows nd n η ps → first_named nd x ps ≡ Some b → FramesInScope nd n frames → Leads nd n P (newest_binding x η at frames)
  unfolding newest_binding first_named
  found_in_scope x at empty no_entry found rest = absurd (let z : ◌≡◌ {A = ℕ} 0 1 = cc in omega arith)
  found_in_scope x at {frames = frames} (bound y v η) (value_entry binds value others) found rest =
      newest (eqb y x) (newest_binding x η at frames) (return_in_scope value rest) λ other.
      found_in_scope x at η others (rw (named_by_value binds x, other) at found) rest
  found_in_scope x at {frames = frames} (rec_bound y k η) (rec_entry env same) found rest =
      newest (eqb y x) (newest_binding x η at frames) (evaluate_in_scope env rest) λ other.
      found_in_scope x at η (follows env) (rw (node_is env, other, same) at found) rest

-- ---- Entering a child

-- The entry that a lambda or a let makes in front of its own environment.
with_value : {nd : Nodes} {n p : ℕ} {node : Node} {η : Chain} {x : Name} {v : Value} → EnvironmentOf nd n p node η → BindsValue node x → ValueInScope nd n v →
    Follows nd n (bound x v η) (p ∷ scope nd p)
with_value env binds value = value_entry (rw (← node_is env) at binds) value (follows env)

module _ {nd : Nodes} {n : ℕ} (t : ClosedTree nd n) where
  -- The child's scope is its parent's, with the parent before it where the parent binds.
  enters : {p c : ℕ} {node : Node} {η η' : Chain} (f : Field) → EnvironmentOf nd n p node η → child node f ≡ Some c →
      Follows nd n η' (cond (binds_in node f) (p ∷ scope nd p) (scope nd p)) → EnvironmentOf nd n c (nd c) η'
  enters {p} {c} {η' = η'} f env stands h =
      let kid : Kid nd p f c = record { stands = rw (node_is env) stands } in
      let entered : Follows nd n η' (scope nd c) = rw (climb_kid t.tree [] (enter nd) (inside env) kid, node_is env) h in
      environment (t.tree.descending.inside (inside env) kid) refl entered

  abbrev LeadsOn : Step → Type 0
  LeadsOn = Leads nd n (StuckThere nd n)

  -- ---- Evaluating

  evaluated_in_scope : {k : ℕ} {η : Chain} {frames : List Frame} (node : Node) → EnvironmentOf nd n k node η → FramesInScope nd n frames → LeadsOn (evaluated newest_binding node k η frames)
  evaluated_in_scope (constant_node c) env rest = return_in_scope (constant_in_scope c) rest
  evaluated_in_scope {k} {η} (name_node x) env rest = found_in_scope (StuckThere nd n) x k η (follows env) (t.bound (inside env) (node_is env)).1 rest
  evaluated_in_scope (application_node l r) env rest = evaluate_in_scope (enters field_a env refl (follows env)) (one_more (left_part_in_scope env) rest)
  evaluated_in_scope (if_node e₀ e₁ e₂) env rest = evaluate_in_scope (enters field_a env refl (follows env)) (one_more (if_frame_in_scope env) rest)
  evaluated_in_scope (lambda_node x e) env rest = return_in_scope (closure_in_scope env) rest
  evaluated_in_scope (let_node x e₁ e₂) env rest = evaluate_in_scope (enters field_b env refl (follows env)) (one_more (let_frame_in_scope env) rest)
  evaluated_in_scope (rec_node x e) env rest = evaluate_in_scope (enters field_b env refl (rec_entry env refl)) rest

  -- ---- Returning

  resulted_in_scope : {frames : List Frame} (r : Outcome) → FramesInScope nd n frames → LeadsOn (resulted r frames)
  resulted_in_scope (number m) rest = return_in_scope integer_in_scope rest
  resulted_in_scope (truth b) rest = return_in_scope boolean_in_scope rest
  resulted_in_scope (exception x) rest = tt

  module _ {k : ℕ} {frames : List Frame} (there : StuckThere nd n (stuck_at k)) (rest : FramesInScope nd n frames) where
    completed_in_scope : (o : Operator) (m : ℤ) (v : Value) → LeadsOn (completed o m v k frames)
    completed_in_scope o m unit_value = there
    completed_in_scope o m (boolean_value b) = there
    completed_in_scope o m (integer_value l) = resulted_in_scope (meaning o m l) rest
    completed_in_scope o m (operator_value p) = there
    completed_in_scope o m (operator_with p l) = there
    completed_in_scope o m (operator_with_other p) = there
    completed_in_scope o m (closure x b η) = there

    applied_in_scope : {u v : Value} → ValueInScope nd n u → ValueInScope nd n v → LeadsOn (applied u v k frames)
    applied_in_scope unit_in_scope value = there
    applied_in_scope boolean_in_scope value = there
    applied_in_scope integer_in_scope value = there
    applied_in_scope {v = v} (operator_in_scope {o}) value = return_in_scope (with_first_in_scope o v) rest
    applied_in_scope {v = v} (operator_with_in_scope {o} {m}) value = completed_in_scope o m v
    applied_in_scope operator_with_other_in_scope value = there
    applied_in_scope (closure_in_scope env) value = evaluate_in_scope (enters field_b env refl (with_value env lambda_binds value)) rest

    chosen_in_scope : {e₀ e₁ e₂ : ℕ} {η : Chain} (v : Value) → EnvironmentOf nd n k (if_node e₀ e₁ e₂) η → LeadsOn (chosen v k e₁ e₂ η frames)
    chosen_in_scope unit_value env = there
    chosen_in_scope (boolean_value true) env = evaluate_in_scope (enters field_b env refl (follows env)) rest
    chosen_in_scope (boolean_value false) env = evaluate_in_scope (enters field_c env refl (follows env)) rest
    chosen_in_scope (integer_value m) env = there
    chosen_in_scope (operator_value o) env = there
    chosen_in_scope (operator_with o m) env = there
    chosen_in_scope (operator_with_other o) env = there
    chosen_in_scope (closure x b ζ) env = there

  returned_in_scope : {v : Value} {frames : List Frame} → ValueInScope nd n v → FramesInScope nd n frames → LeadsOn (returned v frames)
  returned_in_scope value no_frame = tt
  returned_in_scope value (one_more (left_part_in_scope env) rest) =
      evaluate_in_scope (enters field_b env refl (follows env)) (one_more (holding_in_scope (inside env) (node_is env) value) rest)
  returned_in_scope value (one_more (holding_in_scope below is function) rest) = applied_in_scope (below, rw is an_application) rest function value
  returned_in_scope {v} value (one_more (if_frame_in_scope env) rest) = chosen_in_scope (inside env, rw (node_is env) an_if) rest v env
  returned_in_scope value (one_more (let_frame_in_scope env) rest) = evaluate_in_scope (enters field_c env refl (with_value env let_binds value)) rest

  -- ---- Steps and runs

  next_in_scope : {s : State} → InScope nd n s → LeadsOn (next nd s)
  next_in_scope (evaluate_in_scope {node = node} env rest) = rw (node_is env) (evaluated_in_scope node env rest)
  next_in_scope (return_in_scope value rest) = returned_in_scope value rest

  pub start_in_scope : InScope nd n start
  start_in_scope = evaluate_in_scope (environment {η = empty} t.tree.root refl (rw (climb_root [] (enter nd) nd) no_entry)) no_frame

  pub steps_stay_in_scope : {s s' : State} {need : Need} → next nd s ≡ steps_to need s' → InScope nd n s → InScope nd n s'
  steps_stay_in_scope e h = rw e at (next_in_scope h)

  -- Evaluating a name never ends a run.
  pub names_are_found : {k : ℕ} {x : Name} {η : Chain} {frames : List Frame} {e : End} → nd k ≡ name_node x → InScope nd n (evaluate k η frames) → next nd (evaluate k η frames) ≡ at_end e → ⊥
  names_are_found {k} {x} {η} is (evaluate_in_scope env rest) ends =
      rw (rw is at ends) at (found_in_scope (λ _. ⊥) x k η (follows env) (t.bound (inside env) is).1 rest)

  pub stuck_at_application_or_if : {s : State} {k : ℕ} → InScope nd n s → next nd s ≡ at_end (stuck_at k) → (k < n) × ApplicationOrIf (nd k)
  stuck_at_application_or_if h e = rw e at (next_in_scope h)

  ends_in_scope : {s : State} {e : End} {i m : ℕ} → EndsIn (next nd) s e i m → InScope nd n s → StuckThere nd n e
  ends_in_scope (here q) h = rw q at (next_in_scope h)
  ends_in_scope (by_last_step q) h = rw q at (next_in_scope h)
  ends_in_scope (later q onwards) h = ends_in_scope onwards (steps_stay_in_scope q h)

  pub ends_stuck_at_application_or_if : {k i m : ℕ} → EndsIn (next nd) start (stuck_at k) i m → (k < n) × ApplicationOrIf (nd k)
  ends_stuck_at_application_or_if ends = ends_in_scope ends start_in_scope
