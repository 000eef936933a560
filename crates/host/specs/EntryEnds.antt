-- How the run entry ends on a table of whole nodes that the check accepts, and what fuel does to that.
use Rattle.std.specs.Prelude.{ℕ, ◌/◌, ◌%◌, ◌≡◌, ◌⊎◌, Ok, List, length}
use Rattle.std.proofs.Common.{sym, ◌∙◌, ap, subst, subst₂, ⊎_elim, arith}
use Rattle.std.proofs.Math.Logic.{⊎_map}
use Rattle.std.proofs.lemmas.List.{length-replicate}
use Rattle.lent.specs.Cleared.{zeros}
use Rattle.lent.specs.Bytes.{from_bytes}
use Rattle.language.specs.Expression.{Exp}
use Rattle.language.specs.Expression as L2
use Rattle.language.specs.Integers.{Exception}
use Rattle.language.specs.SmallStep.{raised, Step, Steps, Diverges}
use Rattle.acceptance.specs.Refusals.{check_of}
use Rattle.table.specs.ExpressionOf.{exp_of}
use Rattle.semantics.specs.Limits.{AtLeast}
use Rattle.semantics.specs.Answer.{DefinedAnswer, exception_answer}
use Rattle.semantics.proofs.AnswerCodes.{answers_10_to_19}
use Rattle.semantics.specs.Reached.{answer_for}
use Rattle.answers.specs.Answers.{code_of}
use Rattle.machine.specs.Runs.{capacity_of}
use Rattle.machine.specs.CodeTells.{Tells, RanOut}
use Rattle.machine.specs.CallReaches.{lent_room, CallAnswers, CallReaches}
use Rattle.machine.specs.CallEnds.{call_tells_end}
use Rattle.machine.specs.CallLimits.{value_is_reached_by_calls, exception_is_reached_by_calls, endless_calls_run_out}
use Rattle.host.specs.Entries.{packed, part_of_a_node, whole_nodes, RunsTo, RunEntry}
use Rattle.host.specs.Parts.{Parts, whole_of_parts, run_parts}
use Rattle.host.specs.BytesOf8Bits.{BytesOf8Bits}
use Rattle.host.specs.EntryReaches.{entry_room, EntryReaches}
use Rattle.host.specs.WordsOfBytes.{words_of_bytes}

-- ---- The answer by its parts

module _ {words : List ℕ} {fuel r : ℕ} (i : RunsTo words fuel r) where
  answers_packed : {c p steps made : ℕ} → CallAnswers c p steps made i.ran → r ≡ packed c p
  answers_packed a = whole_of_parts (subst₂ (Parts r) a.code_is a.payload_is (run_parts i))

  code_ran_out : RanOut (code_of i.ran.answer) → RanOut (r % 256)
  code_ran_out = subst RanOut (sym (run_parts i).low)

-- ---- The stores of the entry

cells_are_512 : capacity_of (length (zeros 4096)) ≡ 512
cells_are_512 = ap capacity_of (length-replicate {A = ℕ} 4096 0)

its_room : (fuel : ℕ) → lent_room fuel (zeros 4096) (zeros 4096) ≡ entry_room fuel
its_room fuel = ap (λ cells. record { fuel = fuel; bindings = cells; frames = cells }) cells_are_512

-- An entry call whose room is not at least the least one names what ran out.
pub less_entry_room_runs_out : {table : List ℕ} {a : DefinedAnswer} (reaches : EntryReaches table a) {fuel r : ℕ} → RunEntry table fuel r →
    ¬ AtLeast reaches.defined.room (entry_room fuel) → RanOut (r % 256)
less_entry_room_runs_out {a = a} reaches entry less = ⊎_elim (λ is. absurd (less (reaches.least entry (omega (arith, (answers_10_to_19 a).1))))) (λ out. out) (reaches.others entry)

-- ---- A table of whole nodes that the check accepts

module _ {table : List ℕ} {n : ℕ} (whole : length table % 16 ≡ 0) (accepted : check_of (from_bytes table) ≡ Ok n) where
  runs : {fuel r : ℕ} → RunEntry table fuel r → RunsTo (from_bytes table) fuel r
  runs (part_of_a_node p is) = absurd (p whole)
  runs (whole_nodes p ran) = ran

  pub entry_tells_end : {fuel r : ℕ} → BytesOf8Bits table → RunEntry table fuel r → Tells (exp_of (from_bytes table)) (r % 256) (r / 4294967296) ⊎ RanOut (r % 256)
  entry_tells_end small entry =
      let i = runs entry in
      let parts = run_parts i in
      rw (parts.low, parts.high) (call_tells_end accepted i.runs (words_of_bytes small))

  reached_by_entries : {a : DefinedAnswer} → CallReaches (from_bytes table) a → EntryReaches table a
  reached_by_entries {a} reached =
      record {
        defined = reached.defined;
        greater = λ {fuel} entry enough. let i = runs entry in answers_packed i (reached.greater i.runs (subst (AtLeast reached.defined.room) (sym (its_room fuel)) enough));
        least = λ {fuel} entry is. let i = runs entry in subst (AtLeast reached.defined.room) (its_room fuel) (reached.least i.runs (sym (run_parts i).low ∙ is));
        others = λ entry. let i = runs entry in ⊎_map (answers_packed i) (code_ran_out i) (reached.others i.runs);
      }

  pub value_is_reached_by_entries : {v : Exp} → Steps (exp_of (from_bytes table)) v → L2.Value v → EntryReaches table (answer_for v)
  value_is_reached_by_entries steps value = reached_by_entries (value_is_reached_by_calls accepted steps value)

  pub exception_is_reached_by_entries : {e' : Exp} {x : Exception} → Steps (exp_of (from_bytes table)) e' → Step e' (raised x) → EntryReaches table (exception_answer x)
  exception_is_reached_by_entries steps raises = reached_by_entries (exception_is_reached_by_calls accepted steps raises)

  pub endless_entries_run_out : Diverges (exp_of (from_bytes table)) → {fuel r : ℕ} → RunEntry table fuel r → RanOut (r % 256)
  endless_entries_run_out endless entry = let i = runs entry in code_ran_out i (endless_calls_run_out accepted endless i.runs)
