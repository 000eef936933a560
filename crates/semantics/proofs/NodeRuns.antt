-- Runs of nodes that are a tree in which every name is bound: how they end is how the small steps of their formula end, and what fuel and room
-- do to that.
use Rattle.std.specs.Prelude.{ℕ, ◌≤◌, ◌<◌, ◌⊎◌}
use Rattle.std.proofs.Math.Path.{◌≡◌, refl, ap}
use Rattle.std.proofs.Common.{sym, subst, ⊎_elim, arith}
use Rattle.std.proofs.Math.Logic.{inl, inr, ⊎_map}
use Rattle.language.specs.Expression.{Exp}
use Rattle.language.specs.Expression as L2
use Rattle.language.specs.Integers.{Exception}
use Rattle.language.specs.SmallStep.{Step, raised, Steps, Stuck, Diverges}
use Rattle.language.specs.Ty.{Ty}
use Rattle.language.specs.Environment.{empty}
use Rattle.language.specs.Typing.{Has}
use Rattle.language.proofs.Safety.{safety}
use Rattle.table.specs.Node.{Nodes}
use Rattle.table.specs.ExpressionOf.{exp_at}
use Rattle.table.specs.Tree.{ClosedTree}
use Rattle.semantics.specs.Limits.{How, ended, ran_out, Room, AtLeast, run}
use Rattle.semantics.specs.Machine.{End, done, stuck_at, raised_by, next, start, frames_in_use}
use Rattle.semantics.specs.Answer.{DefinedAnswer, exception_answer, stuck_answer, code, end_answer, answer_of, whole_answer, run_nodes}
use Rattle.semantics.proofs.AnswerCodes.{value_answer_code, exception_code, end_code, limit_code, answer_for_code}
use Rattle.semantics.specs.SmallEnd.{EndsAs, got_stuck, an_integer, a_boolean, the_unit, a_function, an_exception, a_lambda, an_operator, an_operator_with}
use Rattle.semantics.specs.Reached.{NamesLimit, answer_for, Reached}
use Rattle.semantics.specs.EndsIn.{EndsIn}
use Rattle.semantics.proofs.LimitsLaws as LimitsLaws
use Rattle.semantics.specs.StuckNodes.{ApplicationOrIf}
use Rattle.semantics.proofs.InScopeLaws as InScopeLaws
use Rattle.semantics.proofs.EndsLikeSmallSteps as EndsLikeSmallSteps
use Rattle.semantics.proofs.SmallEndLaws.{Alike, same, both_stuck, what_ends_does_not_diverge}

module _ {nd : Nodes} {n : ℕ} (t : ClosedTree nd n) where
  -- The formula.
  abbrev e : Exp
  e = exp_at nd n 0

  -- ---- Ends

  pub ends_as_small_steps_or_names_limit : (room : Room) → EndsAs e (run_nodes nd room).answer ⊎ NamesLimit (run_nodes nd room).answer
  unfolding run_nodes
  ends_as_small_steps_or_names_limit room = go (run (next nd) frames_in_use room start).how refl
    where
      go : (how : How End) → (run (next nd) frames_in_use room start).how ≡ how → EndsAs e (answer_of how) ⊎ NamesLimit (answer_of how)
      go (ended end) is = inl (EndsLikeSmallSteps.ends_as_small_steps t (LimitsLaws.ended_is_end (next nd) frames_in_use room start is))
      go (ran_out l) is = inr (record { limit = l; names = refl })

  -- ---- Types

  stuck_is_stuck : {a : DefinedAnswer} {k : ℕ} → EndsAs e a → a ≡ stuck_answer k → (e' : Exp) × Steps e e' × Stuck e'
  stuck_is_stuck (an_integer s) is = absurd (let z : ◌≡◌ {A = ℕ} 0 1 = cc in omega arith)
  stuck_is_stuck (a_boolean s) is = absurd (let z : ◌≡◌ {A = ℕ} 0 1 = cc in omega arith)
  stuck_is_stuck (the_unit s) is = absurd (let z : ◌≡◌ {A = ℕ} 0 1 = cc in omega arith)
  stuck_is_stuck (a_function s f) is = absurd (let z : ◌≡◌ {A = ℕ} 0 1 = cc in omega arith)
  stuck_is_stuck (an_exception s r) is = absurd (let z : ◌≡◌ {A = ℕ} 0 1 = cc in omega arith)
  stuck_is_stuck (got_stuck s st) is = (_, s, st)

  -- Where the small steps never get stuck, no run does.
  pub safe_never_stuck : ((e' : Exp) → Steps e e' → ¬ Stuck e') → (room : Room) (k : ℕ) → ¬ ((run_nodes nd room).answer ≡ stuck_answer k)
  safe_never_stuck safe room k is = ⊎_elim at_end at_limit (ends_as_small_steps_or_names_limit room)
    where
      at_end : EndsAs e (run_nodes nd room).answer → ⊥
      at_end ends = let (e', steps, stuck) = stuck_is_stuck ends is in safe e' steps stuck

      at_limit : NamesLimit (run_nodes nd room).answer → ⊥
      at_limit limit = let named = limit.names in let z : ◌≡◌ {A = ℕ} 0 1 = cc in omega arith

  pub typed_never_stuck : {τ : Ty} → Has empty e τ → (room : Room) (k : ℕ) → ¬ ((run_nodes nd room).answer ≡ stuck_answer k)
  typed_never_stuck typed = safe_never_stuck (λ e' steps. safety typed steps)

  -- ---- Fuel and room

  end_is_reached : {end : End} {i m : ℕ} → EndsIn (next nd) start end i m → Reached (run_nodes nd) (end_answer end)
  unfolding run_nodes
  end_is_reached {end} {i} {m} x =
      record {
        room = LimitsLaws.least_room (next nd) frames_in_use x;
        steps = i;
        bindings = m;
        greater = λ r h. ap whole_answer (LimitsLaws.enough (next nd) frames_in_use x r h);
        least = λ r is. needed r (run (next nd) frames_in_use r start).how refl is;
        others = λ r. ⊎_map (ap whole_answer) (λ out. record { limit = out.0; names = ap answer_of out.1 }) (LimitsLaws.ended_or_ran_out (next nd) frames_in_use x r);
      }
    where
      needed : (r : Room) (how : How End) → (run (next nd) frames_in_use r start).how ≡ how → answer_of how ≡ end_answer end → AtLeast (LimitsLaws.least_room (next nd) frames_in_use x) r
      needed r (ended end') so is = LimitsLaws.needed (next nd) frames_in_use x r so
      needed r (ran_out l) so is = absurd (omega (arith, end_code end, limit_code l, ap code is))

  reached : {a : DefinedAnswer} → EndsAs e a → code a ≤ 15 → Reached (run_nodes nd) a
  reached {a} ends no_stuck =
      let (end, i, m, x, alike) = EndsLikeSmallSteps.small_end_is_machine_end t ends in
      subst (Reached (run_nodes nd)) (sym (equal alike no_stuck)) (end_is_reached x)
    where
      equal : {a b : DefinedAnswer} → Alike a b → code a ≤ 15 → a ≡ b
      equal same h = refl
      equal both_stuck h = absurd (omega arith)

  value_ends : {v : Exp} → Steps e v → L2.Value v → EndsAs e (answer_for v)
  value_ends s (L2.constant_value {c = L2.unit_element}) = the_unit s
  value_ends s (L2.constant_value {c = L2.boolean b}) = a_boolean s
  value_ends s (L2.constant_value {c = L2.integer z}) = an_integer s
  value_ends s (L2.constant_value {c = L2.operator o}) = a_function s an_operator
  value_ends s L2.lambda_value = a_function s a_lambda
  value_ends s (L2.operator_value v) = a_function s (an_operator_with v)

  pub value_is_reached : {v : Exp} → Steps e v → L2.Value v → Reached (run_nodes nd) (answer_for v)
  value_is_reached steps value = reached (value_ends steps value) (omega (arith, answer_for_code value))

  pub exception_is_reached : {e' : Exp} {x : Exception} → Steps e e' → Step e' (raised x) → Reached (run_nodes nd) (exception_answer x)
  exception_is_reached {x = x} steps raises = reached (an_exception steps raises) (exception_code x)

  -- ---- Without end

  pub endless_names_limit : Diverges e → (room : Room) → NamesLimit (run_nodes nd room).answer
  endless_names_limit endless room = ⊎_elim (λ ends. absurd (what_ends_does_not_diverge ends endless)) (λ limit. limit) (ends_as_small_steps_or_names_limit room)

  -- ---- Where a run gets stuck

  only_stuck : (end : End) {k : ℕ} → end_answer end ≡ stuck_answer k → end ≡ stuck_at k
  only_stuck (done v) is = absurd (omega (arith, value_answer_code v, ap code is))
  only_stuck (stuck_at j) is = cc
  only_stuck (raised_by x) is = absurd (let z : ◌≡◌ {A = ℕ} 0 1 = cc in omega arith)

  pub stuck_at_application_or_if : (room : Room) (k : ℕ) → (run_nodes nd room).answer ≡ stuck_answer k → (k < n) × ApplicationOrIf (nd k)
  unfolding run_nodes
  stuck_at_application_or_if room k is = go (run (next nd) frames_in_use room start).how refl is
    where
      go : (how : How End) → (run (next nd) frames_in_use room start).how ≡ how → answer_of how ≡ stuck_answer k → (k < n) × ApplicationOrIf (nd k)
      go (ran_out l) so is = absurd (let z : ◌≡◌ {A = ℕ} 0 1 = cc in omega arith)
      go (ended end) so is =
          let x = LimitsLaws.ended_is_end (next nd) frames_in_use room start so in
          let whole = run (next nd) frames_in_use room start in
          InScopeLaws.ends_stuck_at_application_or_if t (subst (λ (x : End). EndsIn (next nd) start x whole.steps whole.made) (only_stuck end is) x)
