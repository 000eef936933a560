-- What demand 3 says of the run entry, as a definition over its contract `RunEntry`.
use Rattle.std.specs.Prelude.{ℕ, ◌%◌, ◌≡◌, ◌⊎◌, List}
use Rattle.lent.specs.Bytes.{from_bytes}
use Rattle.semantics.specs.Limits.{Room, AtLeast}
use Rattle.semantics.specs.Answer.{DefinedAnswer, code, payload, run_table}
use Rattle.semantics.specs.Reached.{Reached}
use Rattle.machine.specs.CodeTells.{RanOut}
use Rattle.host.specs.Entries.{packed, RunEntry}

-- The fuel of an entry call, and its 512 cells of each kind.
abbrev pub entry_room : ℕ → Room
entry_room fuel = record { fuel = fuel; bindings = 512; frames = 512 }

-- The definition's run of the table's words answers a with a least room. An entry call answers the code and the payload of a exactly if its
-- fuel and the 512 cells of each kind are at least that room; every other entry call names what ran out. Where the least room has more than 512
-- bindings or frames, no entry call answers a and every one names what ran out.
pub record EntryReaches (table : List ℕ) (a : DefinedAnswer) : Type 0 where
  pub defined : Reached (run_table (from_bytes table)) a
  pub greater : {fuel r : ℕ} → RunEntry table fuel r → AtLeast defined.room (entry_room fuel) → r ≡ packed (code a) (payload a)
  pub least : {fuel r : ℕ} → RunEntry table fuel r → r % 256 ≡ code a → AtLeast defined.room (entry_room fuel)
  pub others : {fuel r : ℕ} → RunEntry table fuel r → (r ≡ packed (code a) (payload a)) ⊎ RanOut (r % 256)
