-- What is proved of the two entries for a host in C, from their contracts alone: `InferEntry table out out' r` and `RunEntry table fuel r` say
-- that the entry on these bytes answers the number r (`Entries`). The code of r is its low 8 bits, r % 256, and its place or payload the high
-- 32, r / 4294967296. `Tells` and `RanOut` are those of the call, `EntryReaches` is defined in its file; that the bytes of a table are below
-- 256 is true of every table that is lent.
use Rattle.std.specs.Prelude.{ℕ, ◌/◌, ◌%◌, ◌<◌, ◌≡◌, ◌⊎◌, ◌≢◌, Ok, List, length}
use Rattle.lent.specs.Bytes.{from_bytes}
use Rattle.language.specs.Expression.{Exp}
use Rattle.language.specs.Expression as L2
use Rattle.language.specs.Integers.{Exception}
use Rattle.language.specs.SmallStep.{raised, Step, Steps, Diverges}
use Rattle.acceptance.specs.Refusals.{check_of}
use Rattle.table.specs.ExpressionOf.{exp_of}
use Rattle.semantics.specs.Limits.{AtLeast}
use Rattle.semantics.specs.Answer.{DefinedAnswer, exception_answer}
use Rattle.semantics.specs.Reached.{answer_for}
use Rattle.machine.specs.CodeTells.{Tells, RanOut}
use Rattle.host.specs.Entries.{packed, InferEntry, RunEntry}
use Rattle.host.specs.BytesOf8Bits.{BytesOf8Bits}
use Rattle.host.specs.EntryReaches.{entry_room, EntryReaches}
use Rattle.host.specs.EntriesOnce as EntriesOnce
use Rattle.host.specs.Parts as Parts
use Rattle.host.specs.EnoughWork as EnoughWork
use Rattle.host.specs.Loaded as Loaded
use Rattle.host.specs.EntryPlaces as EntryPlaces
use Rattle.host.specs.EntryEnds as EntryEnds

-- ---- Every table

-- Nothing is left open: any two answers that a contract allows are equal, and so are the out bytes.
infer_entry_once : {table out out₁ out₂ : List ℕ} {r₁ r₂ : ℕ} → InferEntry table out out₁ r₁ → InferEntry table out out₂ r₂ → (r₁ ≡ r₂) × (out₁ ≡ out₂)
infer_entry_once = EntriesOnce.infer_entry_once

run_entry_once : {table : List ℕ} {fuel r₁ r₂ : ℕ} → RunEntry table fuel r₁ → RunEntry table fuel r₂ → r₁ ≡ r₂
run_entry_once = EntriesOnce.run_entry_once

-- An answer is nothing but its code and its high half: all bits between are zero.
infer_is_its_parts : {table out out' : List ℕ} {r : ℕ} → InferEntry table out out' r → r ≡ packed (r % 256) (r / 4294967296)
infer_is_its_parts = Parts.infer_is_its_parts

run_is_its_parts : {table : List ℕ} {fuel r : ℕ} → RunEntry table fuel r → r ≡ packed (r % 256) (r / 4294967296)
run_is_its_parts = Parts.run_is_its_parts

-- No place of inference but the count of a type's words is 512 or more, and no payload of a run but an integer's: a node is below 512.
entry_place_below_512 : {table out out' : List ℕ} {r : ℕ} → InferEntry table out out' r → r % 256 ≢ 0 → r / 4294967296 < 512
entry_place_below_512 = EntryPlaces.entry_place_below_512

entry_payload_below_512 : {table : List ℕ} {fuel r : ℕ} → RunEntry table fuel r → r % 256 ≢ 10 → r / 4294967296 < 512
entry_payload_below_512 = EntryPlaces.entry_payload_below_512

-- The inference entry never answers 5: its work is always enough.
never_work_short : {table out out' : List ℕ} {r : ℕ} → InferEntry table out out' r → r % 256 ≢ 5
never_work_short = EnoughWork.never_work_short

-- A formula that inference answers with 0 never makes the run entry answer 16, at any fuel.
loaded_never_stuck : {table out out' : List ℕ} {i fuel r : ℕ} → InferEntry table out out' i → i % 256 ≡ 0 → RunEntry table fuel r → r % 256 ≢ 16
loaded_never_stuck = Loaded.loaded_never_stuck

-- ---- A table of whole nodes whose words the check accepts

module _ {table : List ℕ} {n : ℕ} (whole : length table % 16 ≡ 0) (accepted : check_of (from_bytes table) ≡ Ok n) where
  -- Code and payload tell the end of the formula's small steps, or the code names what ran out.
  entry_tells_end : {fuel r : ℕ} → BytesOf8Bits table → RunEntry table fuel r → Tells (exp_of (from_bytes table)) (r % 256) (r / 4294967296) ⊎ RanOut (r % 256)
  entry_tells_end = EntryEnds.entry_tells_end whole accepted

  -- If the small steps bring the formula to a value or an exception, there is a least room for that end: if it has at most 512 bindings and
  -- frames, the entry calls with at least its fuel give that end, and all others name what ran out.
  value_is_reached_by_entries : {v : Exp} → Steps (exp_of (from_bytes table)) v → L2.Value v → EntryReaches table (answer_for v)
  value_is_reached_by_entries = EntryEnds.value_is_reached_by_entries whole accepted

  exception_is_reached_by_entries : {e' : Exp} {x : Exception} → Steps (exp_of (from_bytes table)) e' → Step e' (raised x) → EntryReaches table (exception_answer x)
  exception_is_reached_by_entries = EntryEnds.exception_is_reached_by_entries whole accepted

  -- If the small steps go on without end, every entry call names what ran out.
  endless_entries_run_out : Diverges (exp_of (from_bytes table)) → {fuel r : ℕ} → RunEntry table fuel r → RanOut (r % 256)
  endless_entries_run_out = EntryEnds.endless_entries_run_out whole accepted

-- Where a formula has such a least room, an entry call with less, in one of the three numbers, names what ran out.
less_entry_room_runs_out : {table : List ℕ} {a : DefinedAnswer} (reaches : EntryReaches table a) {fuel r : ℕ} → RunEntry table fuel r →
    ¬ AtLeast reaches.defined.room (entry_room fuel) → RanOut (r % 256)
less_entry_room_runs_out = EntryEnds.less_entry_room_runs_out
