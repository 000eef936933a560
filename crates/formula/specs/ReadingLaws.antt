-- One read after the other.
use Rattle.std.specs.Prelude.{ℕ, zero, suc, ◌+◌, ◌≤◌, min, ◌≡◌, refl, true, false, length, take, replicate, Option, Some, None, IfSome}
use Rattle.std.proofs.Common.{sym, ◌∙◌, ap, arith, length-append, length-take, length-take-le}
use mathlib.Core.List.{List, [], ◌∷◌, ◌++◌, flatten, append-nil, append_assoc}
use Rattle.decimal.specs.Scan.{ScanState, stands, slice}
use Rattle.decimal.specs.ScanIsWordsIn.{scan_in_pieces}
use Rattle.decimal.specs.ScanLaws.{scan_keeps_length}
use Rattle.decimal.specs.declared.Scanner.{Scanner}
use Rattle.decimal.specs.declared.Scanner.TheVariants.{Failed, Between, Inside}
use Rattle.formula.specs.Reading.{NoneEmpty, no_piece, one_more, input_scanned, given_up, after_reads, ReadingEnds, at_the_end, scan_failed, read_failed, turns_used_up}
use Rattle.formula.specs.Turns.{after_read, reads_on, PieceRead, InputRead}

pub take_within : (n : ℕ) (bytes : List ℕ) → take (min n (length bytes)) bytes ≡ take n bytes
take_within n bytes = rw (← length-take n bytes) (take_the_length n bytes)
  where
    take_the_length : (n : ℕ) (bytes : List ℕ) → take (length (take n bytes)) bytes ≡ take n bytes
    take_the_length zero bytes = refl
    take_the_length (suc n) [] = refl
    take_the_length (suc n) (b ∷ bytes) = ap (λ rest. b ∷ rest) (take_the_length n bytes)

-- ---- Pieces

flatten_last : (pieces : List (List ℕ)) (piece : List ℕ) → flatten (pieces ++ piece ∷ []) ≡ flatten pieces ++ piece
unfolding flatten
flatten_last [] piece = append-nil piece
flatten_last (first ∷ pieces) piece = ap (λ bytes. first ++ bytes) (flatten_last pieces piece) ∙ sym (append_assoc first (flatten pieces) piece)

none_empty_last : {pieces : List (List ℕ)} (piece : List ℕ) → NoneEmpty pieces → 1 ≤ length piece → NoneEmpty (pieces ++ piece ∷ [])
none_empty_last [] no_piece some = absurd (omega arith)
none_empty_last (b ∷ piece) no_piece some = one_more no_piece
none_empty_last piece (one_more pieces) some = one_more (none_empty_last piece pieces some)

-- Each gave a byte at least.
pub pieces_within : {pieces : List (List ℕ)} → NoneEmpty pieces → length pieces ≤ length (flatten pieces)
unfolding flatten
pieces_within no_piece = omega arith
pieces_within (one_more {piece = piece} pieces) = rw length-append (omega (arith, pieces_within pieces))

-- ---- A read

-- So many reads were made: if the last gave some bytes, then all did.
pub record ReadSoFar (made : ℕ) (got : Option ℕ) (last : ScanState) : Type 0 where
  pub pieces : List (List ℕ)
  pub none_empty : NoneEmpty pieces
  pub leads : last ≡ after_reads got (flatten pieces)
  pub counted : {n : ℕ} → got ≡ Some (suc n) → length pieces ≡ made

pub room_kept : {made : ℕ} {got : Option ℕ} {last : ScanState} → ReadSoFar made got last → length (slice last) ≡ 2048
room_kept {got = got} so_far = ap (λ s. length (slice s)) so_far.leads ∙ go got (flatten so_far.pieces)
  where
    go : (got : Option ℕ) (input : List ℕ) → length (slice (after_reads got input)) ≡ 2048
    go (Some n) input = scan_keeps_length (input_scanned []) input
    go None input = scan_keeps_length (input_scanned []) input

module _ {start : ScanState} {pieces : List (List ℕ)} (none_empty : NoneEmpty pieces) (from : start ≡ input_scanned (flatten pieces)) where
  pub read_more : {piece : List ℕ} {got : Option ℕ} {last : ScanState} → PieceRead start piece got last → ReadSoFar (length pieces + 1) got last
  read_more {piece} {got} {last} read = go got read.moved read.leads
    where
      go : (got : Option ℕ) → IfSome got (λ n. n ≤ length piece) → last ≡ after_read start got piece → ReadSoFar (length pieces + 1) got last
      go (Some zero) moved leads = record { pieces = pieces; none_empty = none_empty; leads = leads ∙ from; counted = λ some. absurd (let z : ◌≡◌ {A = ℕ} 0 1 = cc in omega arith) }
      go None moved leads = record { pieces = pieces; none_empty = none_empty; leads = leads ∙ ap given_up from; counted = λ some. absurd (let z : ◌≡◌ {A = ℕ} 0 1 = cc in omega arith) }
      go (Some (suc n)) moved leads = record {
        pieces = pieces ++ take (suc n) piece ∷ [];
        none_empty = none_empty_last (take (suc n) piece) none_empty (rw (length-take-le (suc n) piece moved) (omega arith));
        leads = rw (flatten_last pieces (take (suc n) piece)) (leads ∙ rw from (sym (scan_in_pieces (replicate 2048 0) (flatten pieces) (take (suc n) piece))));
        counted = λ some. rw length-append refl;
      }

pub read_first : {start last : ScanState} {piece : List ℕ} {got : Option ℕ} → start ≡ input_scanned [] → PieceRead start piece got last → ReadSoFar 1 got last
unfolding flatten
read_first begins read = read_more no_piece begins read

-- Some bytes came.
record GoesOn (got : Option ℕ) : Type 0 where
  more : ℕ
  some : got ≡ Some (suc more)

goes_on : (got : Option ℕ) (s : Scanner) → reads_on got s ≡ true → GoesOn got
goes_on (Some zero) s on = absurd (let z : ◌≡◌ {A = ℕ} 0 1 = cc in omega arith)
goes_on (Some (suc n)) s on = record { more = n; some = refl }
goes_on None s on = absurd (let z : ◌≡◌ {A = ℕ} 0 1 = cc in omega arith)

module _ {made : ℕ} {got : Option ℕ} {s : Scanner} {words : List ℕ} (so_far : ReadSoFar made got (stands s words)) where
  pub read_next : {piece : List ℕ} {got' : Option ℕ} {last : ScanState} → reads_on got s ≡ true → PieceRead (stands s words) piece got' last → ReadSoFar (made + 1) got' last
  read_next on read =
      let some = (goes_on got s on).some in
      rw (so_far.counted some) at (read_more so_far.none_empty (rw some at so_far.leads) read)

  -- ---- The last read

  because : ReadingEnds so_far.pieces got → InputRead got (stands s words)
  because ends = record { reads = record { pieces = so_far.pieces; none_empty = so_far.none_empty; ends = ends }; leads = so_far.leads }

  pub read_over : reads_on got s ≡ false → InputRead got (stands s words)
  read_over over = because (go got s over so_far.leads)
    where
      go : (got : Option ℕ) (s : Scanner) → reads_on got s ≡ false → stands s words ≡ after_reads got (flatten so_far.pieces) → ReadingEnds so_far.pieces got
      go (Some zero) s over state = at_the_end refl
      go (Some (suc n)) Failed over state = scan_failed (sym state)
      go (Some (suc n)) (Between count) over state = absurd (let z : ◌≡◌ {A = ℕ} 0 1 = cc in omega arith)
      go (Some (suc n)) (Inside count value) over state = absurd (let z : ◌≡◌ {A = ℕ} 0 1 = cc in omega arith)
      go None s over state = read_failed refl

  pub no_turn_left : made ≡ 18446744073709551616 → InputRead got (stands s words)
  no_turn_left all = because (go got refl)
    where
      go : (last : Option ℕ) → got ≡ last → ReadingEnds so_far.pieces got
      go (Some zero) is = at_the_end is
      go (Some (suc n)) is = turns_used_up (so_far.counted is ∙ all)
      go None is = read_failed is
