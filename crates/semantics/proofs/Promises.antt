-- What is proved of runs: demand 2's half about them, and demand 3. Everything is said of `run_table`, the run of a table with fuel and
-- room (`Answer`, `Limits`, `Machine`), and of the small steps of the expression that the table stands for. `Checked words n` says that
-- the check accepts the table; `EndsAs`, `Reached`, `NamesLimit` and `ComesTo` are defined in `SmallEnd`, `Reached` and `ComesTo`.
-- `NodeRuns` has the same of nodes, wherever they are read from.
use Rattle.std.specs.Prelude.{ℕ, ◌≤◌, ◌<◌, ◌≡◌, ◌⊎◌, ◌≢◌, List}
use Rattle.language.specs.Expression.{Name, Exp}
use Rattle.language.specs.Expression as L2
use Rattle.language.specs.Integers.{Exception}
use Rattle.language.specs.SmallStep.{Step, raised, Steps, Diverges}
use Rattle.language.specs.Ty.{Ty}
use Rattle.language.specs.Environment.{empty}
use Rattle.language.specs.Typing.{Has}
use Rattle.table.specs.Node.{name_node, node_at}
use Rattle.table.specs.ExpressionOf.{exp_of}
use Rattle.acceptance.specs.Checked.{Checked}
use Rattle.semantics.specs.Limits.{Need, a_binding, a_frame, at_end, steps_to, fuel_limit, binding_limit, frame_limit, Room}
use Rattle.semantics.specs.Machine.{Chain, Frame, State, evaluate, frames_in_use, End, next, start}
use Rattle.semantics.specs.Answer.{DefinedAnswer, exception_answer, stuck_answer, limit_answer, code, run_table}
use Rattle.semantics.specs.SmallEnd.{EndsAs}
use Rattle.semantics.specs.Reached.{NamesLimit, answer_for, Reached}
use Rattle.semantics.specs.StuckNodes.{ApplicationOrIf}
use Rattle.semantics.specs.InScope.{InScope}
use Rattle.semantics.specs.ComesTo.{ComesTo}
use Rattle.semantics.proofs.StopsForLaws as StopsForLaws
use Rattle.semantics.proofs.LimitMeans as LimitMeans
use Rattle.semantics.proofs.AnswerCodes as AnswerCodes
use Rattle.semantics.proofs.TableRuns as TableRuns
use Rattle.semantics.proofs.InScopeLaws as InScopeLaws

module _ {words : List ℕ} {n : ℕ} (checked : Checked words n) where
  -- (a) An answer is the end of the small steps, with the value, or names what ran out.
  ends_as_small_steps_or_names_limit : (room : Room) → EndsAs (exp_of words) (run_table words room).answer ⊎ NamesLimit (run_table words room).answer
  ends_as_small_steps_or_names_limit = TableRuns.ends_as_small_steps_or_names_limit checked

  -- (b) If the formula has a type, no fuel and no room give 16.
  typed_never_stuck : {τ : Ty} → Has empty (exp_of words) τ → (room : Room) (k : ℕ) → ¬ ((run_table words room).answer ≡ stuck_answer k)
  typed_never_stuck = TableRuns.typed_never_stuck checked

  -- (c) If the small steps bring it to a value or an exception, there is a least room that gives that end: all that are at least as large
  -- give it with the same counts, and all others name what ran out.
  value_is_reached : {v : Exp} → Steps (exp_of words) v → L2.Value v → Reached (run_table words) (answer_for v)
  value_is_reached = TableRuns.value_is_reached checked

  exception_is_reached : {e' : Exp} {x : Exception} → Steps (exp_of words) e' → Step e' (raised x) → Reached (run_table words) (exception_answer x)
  exception_is_reached = TableRuns.exception_is_reached checked

  -- (d) If the small steps go on without end, every run names what ran out.
  endless_names_limit : Diverges (exp_of words) → (room : Room) → NamesLimit (run_table words room).answer
  endless_names_limit = TableRuns.endless_names_limit checked

  -- A run gets stuck only at an application or an if node.
  stuck_at_application_or_if : (room : Room) (k : ℕ) → (run_table words room).answer ≡ stuck_answer k → (k < n) × ApplicationOrIf (node_at words k)
  stuck_at_application_or_if = TableRuns.stuck_at_application_or_if checked

  -- Along a run each environment is, entry by entry, the scope of its node, so that every name is found.
  start_in_scope : InScope (node_at words) n start
  start_in_scope = InScopeLaws.start_in_scope checked.closed

  steps_stay_in_scope : {s s' : State} {need : Need} → next (node_at words) s ≡ steps_to need s' → InScope (node_at words) n s → InScope (node_at words) n s'
  steps_stay_in_scope = InScopeLaws.steps_stay_in_scope checked.closed

  names_are_found : {k : ℕ} {x : Name} {η : Chain} {frames : List Frame} {e : End} → node_at words k ≡ name_node x → InScope (node_at words) n (evaluate k η frames)
      → ¬ (next (node_at words) (evaluate k η frames) ≡ at_end e)
  names_are_found = InScopeLaws.names_are_found checked.closed

-- A run of any table that names what ran out stops for want of it. `ComesTo next start s steps bindings` says that the machine without limits
-- comes to the state s in the steps and bindings of the run.
module _ (words : List ℕ) (room : Room) where
  -- 17: the steps are the fuel, and the state has not come to an end.
  fuel_limit_means : (run_table words room).answer ≡ limit_answer fuel_limit → ((run_table words room).steps ≡ room.fuel) ×
      (s : State) × ComesTo (next (node_at words)) start s (run_table words room).steps (run_table words room).bindings × ((e : End) → next (node_at words) s ≢ at_end e)
  fuel_limit_means is = StopsForLaws.fuel_limit_means (LimitMeans.limit_stops_for (node_at words) room is)

  -- 18: there is fuel, the bindings made are the capacity, and the next step needs one.
  binding_limit_means : (run_table words room).answer ≡ limit_answer binding_limit → ((run_table words room).steps < room.fuel) × ((run_table words room).bindings ≡ room.bindings) ×
      (s : State) × ComesTo (next (node_at words)) start s (run_table words room).steps (run_table words room).bindings × (s' : State) × (next (node_at words) s ≡ steps_to a_binding s')
  binding_limit_means is = StopsForLaws.binding_limit_means (LimitMeans.limit_stops_for (node_at words) room is)

  -- 19: there is fuel, the frames in use are the capacity, and the next step needs one.
  frame_limit_means : (run_table words room).answer ≡ limit_answer frame_limit → ((run_table words room).steps < room.fuel) ×
      (s : State) × ComesTo (next (node_at words)) start s (run_table words room).steps (run_table words room).bindings × (frames_in_use s ≡ room.frames) ×
      (s' : State) × (next (node_at words) s ≡ steps_to a_frame s')
  frame_limit_means is = StopsForLaws.frame_limit_means (LimitMeans.limit_stops_for (node_at words) room is)

-- (e) The code of an answer is one of 10 to 19.
answers_10_to_19 : (a : DefinedAnswer) → (10 ≤ code a) × (code a ≤ 19)
answers_10_to_19 = AnswerCodes.answers_10_to_19
