-- The table of an entry: its length, and its words.
use Rattle.std.specs.Prelude.{ℕ, ◌/◌, ◌%◌, ◌≤◌, ◌<◌, ◌≡◌, refl, ◌≢◌, Bool, true, false, cond, not, ◌||◌, Err, List, [], eqb, ltb, length, take, drop}
use Rattle.std.proofs.Common.{sym, subst, arith, take_at, lt-ltb, eqb-true, ltb-true, ltb-false}
use Rattle.std.proofs.Math.Seq.{length-sets}
use Rattle.std.proofs.lemmas.Bool.{eqb-false}
use Rattle.lent.specs.Bytes.{from_bytes, overwrite}
use Rattle.lent.specs.Writing.{overwrite_fits}
use Rattle.lent.specs.ByteLaws.{length-from_bytes}
use Rattle.acceptance.specs.Refusals.{check_of}
use Rattle.acceptance.specs.declared.Refusal.TheVariants.{WrongCount}
use Rattle.inference.specs.Inference.{leaves, turned}
use Rattle.inference.specs.declared.Untyped.TheVariants.{Refused}
use Rattle.machine.specs.Runs.{refused_as}
use Rattle.machine.specs.RunCall as Machine
use Rattle.host.specs.Entries.{packed, Entry, part_of_a_node, whole_nodes, InfersTo, InfersOn, InferEntry, RunsTo, RunEntry}
use Rattle.host.specs.EntriesOnce.{infers_to_once, runs_to_once}
use Rattle.host.specs.Rooms.{wrong_length}

-- ---- Its length

data LengthIs (bytes : ℕ) : Bool → Type 0 where
  part : bytes % 16 ≢ 0 → LengthIs bytes true
  long : bytes % 16 ≡ 0 → 8192 < bytes → LengthIs bytes true
  right : bytes % 16 ≡ 0 → bytes ≤ 8192 → LengthIs bytes false

length_is : (bytes : ℕ) {wrong : Bool} → wrong_length bytes ≡ wrong → LengthIs bytes wrong
length_is bytes is = subst (LengthIs bytes) is (go (eqb (bytes % 16) 0) (ltb 8192 bytes) refl refl)
  where
    go : (whole above : Bool) → eqb (bytes % 16) 0 ≡ whole → ltb 8192 bytes ≡ above → LengthIs bytes (not whole || above)
    go false above w a = part (eqb-false (bytes % 16) 0 w)
    go true true w a = long (eqb-true (bytes % 16) 0 w) (ltb-true 8192 bytes a)
    go true false w a = right (eqb-true (bytes % 16) 0 w) (ltb-false 8192 bytes a)

or_true : (a b : Bool) → (a || b || true) ≡ true
or_true true b = refl
or_true false true = refl
or_true false false = refl

long_is_refused : (words : List ℕ) → 2048 < length words → check_of words ≡ Err WrongCount
unfolding check_of
long_is_refused words above = rw (lt-ltb 2048 (length words) above, or_true (eqb (length words) 0) (not (eqb (length words % 4) 0)))

-- ---- Its words

-- A table of a wrong length is read as one without words, which is code 1 too.
abbrev pub table_words : List ℕ → List ℕ
table_words table = cond (wrong_length (length table)) [] (from_bytes table)

-- The first n words are the table's.
pub record TableRead (table words : List ℕ) (n : ℕ) : Type 0 where
  pub within : n ≤ length words
  pub are : take n words ≡ table_words table

pub none_read : (table words : List ℕ) → wrong_length (length table) ≡ true → TableRead table words 0
none_read table words wrong = record { within = omega arith; are = rw wrong }

pub all_read : (table words₀ : List ℕ) {words : List ℕ} → wrong_length (length table) ≡ false → length words₀ ≡ 2048 → words ≡ overwrite (from_bytes table) words₀ → TableRead table words (length table / 4)
all_read table words₀ {words} right_length size is = go (length_is (length table) right_length)
  where
    go : LengthIs (length table) false → TableRead table words (length table / 4)
    go (right whole few) =
        let fits : length (from_bytes table) ≤ length words₀ = omega (arith, length-from_bytes table) in
        record {
          within = rw (is, length-sets words₀ 0 (from_bytes table)) (omega arith);
          are = rw (is, overwrite_fits (from_bytes table) words₀ fits, right_length) (take_at (from_bytes table) (drop (length (from_bytes table)) words₀) (length table / 4) (length-from_bytes table));
        }

-- ---- A table of code 1

module _ {words : List ℕ} (one : check_of words ≡ Err WrongCount) where
  refused_infer : {work type_words out out' : List ℕ} {r : ℕ} → (r ≡ packed 1 0) × (out' ≡ out) → InfersTo words work type_words out out' r
  refused_infer (number, kept) = record { after = leaves (Err (Refused WrongCount)) _ _; infers = turned one refl; number = number; out_is_after = kept }

  infer_refused : {work type_words out out' : List ℕ} {r : ℕ} → InfersTo words work type_words out out' r → (r ≡ packed 1 0) × (out' ≡ out)
  infer_refused i = infers_to_once i (refused_infer (refl, refl))

  refused_run : {fuel r : ℕ} → r ≡ packed 1 0 → RunsTo words fuel r
  refused_run number = record { ran = refused_as 1 0; bindings_after = _; frames_after = _; runs = Machine.refused_run (sym one) refl; number = number }

  run_refused : {fuel r : ℕ} → RunsTo words fuel r → r ≡ packed 1 0
  run_refused i = runs_to_once i (refused_run refl)

none_is_refused : check_of [] ≡ Err WrongCount
unfolding check_of
none_is_refused = refl

-- ---- The entries

module _ {table words : List ℕ} {n : ℕ} (read : TableRead table words n) where
  -- What is answered of the words that are read is answered of the table, if the answer to code 1 is one.
  answered : {CodeOne : Type 0} (Answered : List ℕ → Type 0) → ((words : List ℕ) → check_of words ≡ Err WrongCount → CodeOne → Answered words) →
      ((words : List ℕ) → check_of words ≡ Err WrongCount → Answered words → CodeOne) → Answered (take n words) → Entry table CodeOne (Answered (from_bytes table))
  answered {CodeOne} Answered refused_as_lem as_refused a = go (wrong_length (length table)) refl (subst Answered read.are a)
    where
      go : (wrong : Bool) → wrong_length (length table) ≡ wrong → Answered (cond wrong [] (from_bytes table)) → Entry table CodeOne (Answered (from_bytes table))
      go true e a = wrong_length_lem (length_is (length table) e)
        where
          wrong_length_lem : LengthIs (length table) true → Entry table CodeOne (Answered (from_bytes table))
          wrong_length_lem (part p) = part_of_a_node p (as_refused [] none_is_refused a)
          wrong_length_lem (long w above) =
              whole_nodes w (refused_as_lem (from_bytes table) (long_is_refused (from_bytes table) (omega (arith, length-from_bytes table))) (as_refused [] none_is_refused a))
      go false e a = right_length (length_is (length table) e)
        where
          right_length : LengthIs (length table) false → Entry table CodeOne (Answered (from_bytes table))
          right_length (right w few) = whole_nodes w a

  pub infer_answered : {out out' : List ℕ} {r : ℕ} → InfersOn (take n words) out out' r → InferEntry table out out' r
  infer_answered {out} {out'} {r} i = answered (λ words. InfersOn words out out' r) (λ words one. refused_infer one) (λ words one. infer_refused one) i

  pub run_answered : {fuel r : ℕ} → RunsTo (take n words) fuel r → RunEntry table fuel r
  run_answered {fuel} {r} i = answered (λ words. RunsTo words fuel r) (λ words one. refused_run one) (λ words one. run_refused one) i
