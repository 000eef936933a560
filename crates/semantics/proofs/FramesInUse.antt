-- A step of the machine adds at most the one frame that it needs.
use Rattle.std.specs.Prelude.{ℕ, suc, ◌+◌, ◌≤◌, Bool, true, false, cond, List, [], ◌∷◌, eqb, ℤ, length}
use Rattle.std.proofs.Common.{subst, arith}
use Rattle.language.specs.Expression.{Name, Operator}
use Rattle.language.specs.Integers.{Outcome, number, truth, exception, meaning}
use Rattle.table.specs.Node.{Node, Nodes, constant_node, name_node, application_node, if_node, lambda_node, let_node, rec_node}
use Rattle.semantics.specs.Limits.{nothing, at_end, last_step, steps_to}
use Rattle.semantics.specs.EndsIn.{frames_for}
use Rattle.semantics.specs.Machine.{Value, unit_value, boolean_value, integer_value, operator_value, operator_with, operator_with_other, closure}
use Rattle.semantics.specs.Machine.{Chain, empty, bound, rec_bound, Frame, left_part, holding}
use Rattle.semantics.specs.Machine.{if_frame, let_frame, State, evaluate, return, frames_in_use, Step, newest_binding, evaluated, resulted, completed, applied, chosen, returned, next}
use Rattle.semantics.proofs.StopsForLaws.{FrameByFrame}

-- Of a step from a state with so many frames in use.
abbrev Adds : ℕ → Step → Type 0
Adds used (at_end e) = Unit {0}
Adds used (last_step e) = Unit {0}
Adds used (steps_to need s) = frames_in_use s ≤ frames_for need + used

-- ---- Evaluate

one_of : (same : Bool) (used : ℕ) (found other : Step) → Adds used found → Adds used other → Adds used (cond same found other)
one_of true used found other a b = a
one_of false used found other a b = b

binding_adds : (x : Name) (η : Chain) (k : ℕ) (frames : List Frame) → Adds (length frames) (newest_binding x η k frames)
unfolding newest_binding
binding_adds x empty k frames = tt
binding_adds x (bound y v η) k frames = one_of (eqb y x) (length frames) (steps_to nothing (return v frames)) (newest_binding x η k frames) (omega arith) (binding_adds x η k frames)
binding_adds x (rec_bound y j η) k frames = one_of (eqb y x) (length frames) (steps_to nothing (evaluate j η frames)) (newest_binding x η k frames) (omega arith) (binding_adds x η k frames)

evaluated_adds : (node : Node) (k : ℕ) (η : Chain) (frames : List Frame) → Adds (length frames) (evaluated newest_binding node k η frames)
evaluated_adds (constant_node c) k η frames = omega arith
evaluated_adds (name_node x) k η frames = binding_adds x η k frames
evaluated_adds (application_node l r) k η frames = omega arith
evaluated_adds (if_node e₀ e₁ e₂) k η frames = omega arith
evaluated_adds (lambda_node x e) k η frames = omega arith
evaluated_adds (let_node x e₁ e₂) k η frames = omega arith
evaluated_adds (rec_node x e) k η frames = omega arith

-- ---- Return

resulted_adds : (o : Outcome) (frames : List Frame) → Adds (suc (length frames)) (resulted o frames)
resulted_adds (number n) frames = omega arith
resulted_adds (truth b) frames = omega arith
resulted_adds (exception x) frames = tt

completed_adds : (o : Operator) (m : ℤ) (v : Value) (k : ℕ) (frames : List Frame) → Adds (suc (length frames)) (completed o m v k frames)
completed_adds o m unit_value k frames = tt
completed_adds o m (boolean_value b) k frames = tt
completed_adds o m (integer_value n) k frames = resulted_adds (meaning o m n) frames
completed_adds o m (operator_value p) k frames = tt
completed_adds o m (operator_with p n) k frames = tt
completed_adds o m (operator_with_other p) k frames = tt
completed_adds o m (closure x e η) k frames = tt

applied_adds : (u v : Value) (k : ℕ) (frames : List Frame) → Adds (suc (length frames)) (applied u v k frames)
applied_adds unit_value v k frames = tt
applied_adds (boolean_value b) v k frames = tt
applied_adds (integer_value n) v k frames = tt
applied_adds (operator_value o) v k frames = omega arith
applied_adds (operator_with o m) v k frames = completed_adds o m v k frames
applied_adds (operator_with_other o) v k frames = tt
applied_adds (closure x e η) v k frames = omega arith

chosen_adds : (v : Value) (k e₁ e₂ : ℕ) (η : Chain) (frames : List Frame) → Adds (suc (length frames)) (chosen v k e₁ e₂ η frames)
chosen_adds unit_value k e₁ e₂ η frames = tt
chosen_adds (boolean_value true) k e₁ e₂ η frames = omega arith
chosen_adds (boolean_value false) k e₁ e₂ η frames = omega arith
chosen_adds (integer_value n) k e₁ e₂ η frames = tt
chosen_adds (operator_value o) k e₁ e₂ η frames = tt
chosen_adds (operator_with o n) k e₁ e₂ η frames = tt
chosen_adds (operator_with_other o) k e₁ e₂ η frames = tt
chosen_adds (closure x e ζ) k e₁ e₂ η frames = tt

returned_adds : (v : Value) (frames : List Frame) → Adds (length frames) (returned v frames)
returned_adds v [] = tt
returned_adds v (left_part k r η ∷ frames) = omega arith
returned_adds v (holding k u ∷ frames) = applied_adds u v k frames
returned_adds v (if_frame k e₁ e₂ η ∷ frames) = chosen_adds v k e₁ e₂ η frames
returned_adds v (let_frame x e₂ η ∷ frames) = omega arith

-- ---- One step

next_adds : (nd : Nodes) (s : State) → Adds (frames_in_use s) (next nd s)
next_adds nd (evaluate k η frames) = evaluated_adds (nd k) k η frames
next_adds nd (return v frames) = returned_adds v frames

pub frame_by_frame : (nd : Nodes) → FrameByFrame (next nd) frames_in_use
frame_by_frame nd = record { adds = λ {s} p. subst (Adds (frames_in_use s)) p (next_adds nd s) }
