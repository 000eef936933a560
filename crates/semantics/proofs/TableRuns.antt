-- Runs of a checked table: what is proved of nodes that are a tree (`NodeRuns`), of the nodes of its words.
use Rattle.std.specs.Prelude.{ℕ, ◌<◌, ◌≡◌, ◌⊎◌, List}
use Rattle.std.proofs.Common.{sym, subst}
use Rattle.language.specs.Expression.{Exp}
use Rattle.language.specs.Expression as L2
use Rattle.language.specs.Integers.{Exception}
use Rattle.language.specs.SmallStep.{Step, raised, Steps, Diverges}
use Rattle.language.specs.Ty.{Ty}
use Rattle.language.specs.Environment.{empty}
use Rattle.language.specs.Typing.{Has}
use Rattle.table.specs.Node.{node_at, count_of}
use Rattle.table.specs.ExpressionOf.{exp_of}
use Rattle.acceptance.specs.Checked.{Checked}
use Rattle.table.specs.Tree.{ClosedTree}
use Rattle.acceptance.specs.Accepted.{count_is}
use Rattle.semantics.specs.Limits.{Room}
use Rattle.semantics.specs.Answer.{exception_answer, stuck_answer, run_table}
use Rattle.semantics.specs.SmallEnd.{EndsAs}
use Rattle.semantics.specs.Reached.{NamesLimit, answer_for, Reached}
use Rattle.semantics.specs.StuckNodes.{ApplicationOrIf}
use Rattle.semantics.proofs.NodeRuns as NodeRuns

module _ {words : List ℕ} {n : ℕ} (checked : Checked words n) where
  -- The formula is that of as many nodes as the words have.
  closed : ClosedTree (node_at words) (count_of words)
  closed = subst (ClosedTree (node_at words)) (sym (count_is checked)) checked.closed

  pub ends_as_small_steps_or_names_limit : (room : Room) → EndsAs (exp_of words) (run_table words room).answer ⊎ NamesLimit (run_table words room).answer
  ends_as_small_steps_or_names_limit = NodeRuns.ends_as_small_steps_or_names_limit closed

  pub typed_never_stuck : {τ : Ty} → Has empty (exp_of words) τ → (room : Room) (k : ℕ) → ¬ ((run_table words room).answer ≡ stuck_answer k)
  typed_never_stuck = NodeRuns.typed_never_stuck closed

  pub value_is_reached : {v : Exp} → Steps (exp_of words) v → L2.Value v → Reached (run_table words) (answer_for v)
  value_is_reached = NodeRuns.value_is_reached closed

  pub exception_is_reached : {e' : Exp} {x : Exception} → Steps (exp_of words) e' → Step e' (raised x) → Reached (run_table words) (exception_answer x)
  exception_is_reached = NodeRuns.exception_is_reached closed

  pub endless_names_limit : Diverges (exp_of words) → (room : Room) → NamesLimit (run_table words room).answer
  endless_names_limit = NodeRuns.endless_names_limit closed

  pub stuck_at_application_or_if : (room : Room) (k : ℕ) → (run_table words room).answer ≡ stuck_answer k → (k < n) × ApplicationOrIf (node_at words k)
  stuck_at_application_or_if = NodeRuns.stuck_at_application_or_if checked.closed
