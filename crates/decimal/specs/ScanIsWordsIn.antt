-- The scan from the left gives the words of the whole input.
use Prim.Native.Nat.{ℕ, suc, ◌+◌, ◌≤◌, ◌<◌}
use Rattle.std.specs.Prelude.{◌≡◌, Bool, leb, set, Option, None, Some}
use Rattle.std.proofs.Math.Path.{refl, ap}
use Rattle.std.proofs.Common.{◌∙◌, arith, zero-add}
use Rattle.std.proofs.Math.Bool.{true, false, cond}
use mathlib.Core.List.{List, [], ◌∷◌, ◌++◌, foldl, foldl-append, append-nil, append_assoc}
use Rattle.std.proofs.Math.Dec.{ltb}
use Rattle.std.proofs.Math.ListN.{length, length-append}
use borrow.Author.Tests.{ltb-true, ltb-false, lt-leb, le-leb}
use Rattle.lent.specs.Written.{Written}
use Rattle.lent.specs.WrittenLaws.{written_none, written_one, written_length, written_then}
use Rattle.lent.specs.Writing.{first_written}
use Rattle.decimal.specs.Input.{is_space, after_byte, runs, without_empty, tokens, is_digit, with_digit, word_limit, number_of, both, numbers_of, words_in}
use Rattle.decimal.specs.Scan.{ScanState, stands, with_word, space_read, in_token, other_read, scan_byte, scanned, finish, words_at}
use Rattle.decimal.specs.TokenLaws.{joined, joined_first, joined_ended, joined_longer, Runs, runs_are, some_run, value_so_far, Begun, between, within, begun_number, no_number_longer, no_digit, grows, too_large}
use Rattle.decimal.specs.declared.Scanner.{Scanner}
use Rattle.decimal.specs.declared.Scanner.TheVariants.{Failed, Between, Inside}

-- ---- Words, and tokens after them

abbrev after : List ℕ → Option (List ℕ) → Option (List ℕ)
after words None = None
after words (Some numbers) = Some (words ++ numbers)

-- The words of an input that begins with those words and goes on with those tokens, if there are at most so many.
answer : ℕ → List ℕ → List (List ℕ) → Option (List ℕ)
answer most words others = cond (leb (length words + length others) most) (after words (numbers_of others)) None

answer_all : (most : ℕ) (others : List (List ℕ)) → answer most [] others ≡ cond (leb (length others) most) (numbers_of others) None
unfolding answer
answer_all most others = rw zero-add (ap (λ o. cond (leb (length others) most) o None) (go (numbers_of others)))
  where
    go : (o : Option (List ℕ)) → after [] o ≡ o
    go None = refl
    go (Some words) = refl

module _ (most : ℕ) (words : List ℕ) where
  answer_none : length words ≤ most → Some words ≡ answer most words []
  unfolding answer numbers_of
  answer_none fits = rw (le-leb (length words + 0) most (omega arith), append-nil words)

  module _ (token : List ℕ) (others : List (List ℕ)) where
    answer_full : most ≤ length words → None ≡ answer most words (token ∷ others)
    unfolding answer
    answer_full full = rw (lt-leb (length words + suc (length others)) most (omega arith))

    answer_word : {value : ℕ} → number_of token ≡ Some value → answer most (words ++ value ∷ []) others ≡ answer most words (token ∷ others)
    unfolding answer numbers_of
    answer_word {value} is =
        let same : length (words ++ value ∷ []) + length others ≡ length words + suc (length others) = rw length-append (omega arith) in
        rw (same, is) (ap (λ o. cond (leb (length words + suc (length others)) most) o None) (go (numbers_of others)))
      where
        go : (o : Option (List ℕ)) → after (words ++ value ∷ []) o ≡ after words (both (Some value) o)
        go None = refl
        go (Some numbers) = ap Some (append_assoc words (value ∷ []) numbers)

    answer_no_number : number_of token ≡ None → None ≡ answer most words (token ∷ others)
    unfolding answer numbers_of
    answer_no_number is = rw is (go (leb (length words + suc (length others)) most))
      where
        go : (fits : Bool) → None ≡ cond {A = Option (List ℕ)} fits None None
        go true = refl
        go false = refl

-- ---- The slice

-- The words so far stand in the place of its first.
record Holds (slice₀ words now : List ℕ) (count : ℕ) : Type 0 where
  written : Written slice₀ 0 words now count
  fits : length words ≤ length slice₀

module _ {slice₀ words now : List ℕ} {count : ℕ} (holds : Holds slice₀ words now count) where
  counted : count ≡ length words
  counted = omega (arith, holds.written.next_is, holds.fits)

  as_long : length now ≡ length slice₀
  as_long = written_length holds.written

  one_more : (value : ℕ) → count < length now → Holds slice₀ (words ++ value ∷ []) (set now count value) (count + 1)
  one_more value room = record {
    written = written_then holds.written (written_one now value room);
    fits = rw length-append (omega (arith, counted, as_long));
  }

  words_found : words_at (stands (Between count) now) ≡ Some words
  words_found = ap Some (first_written holds.written holds.fits)

-- ---- A token ends

-- Where a scan stands in terms of the token under way.
abbrev standing : ℕ → Option ℕ → Scanner
standing count None = Between count
standing count (Some value) = Inside count value

other_is : (count : ℕ) (token : Option ℕ) (b : ℕ) → other_read (standing count token) b ≡ in_token count (value_so_far token) b
other_is count None b = refl
other_is count (Some value) b = refl

module _ {slice₀ : List ℕ} (goes_on : ScanState → Option (List ℕ)) (others : List (List ℕ)) (stays : (now : List ℕ) → goes_on (stands Failed now) ≡ None)
    (reads : (words now : List ℕ) (count : ℕ) → Holds slice₀ words now count → goes_on (stands (Between count) now) ≡ answer (length slice₀) words (without_empty others)) where
  ends : {words now run : List ℕ} {count : ℕ} {token : Option ℕ} → Holds slice₀ words now count → Begun run token →
      goes_on (space_read (standing count token) now) ≡ answer (length slice₀) words (without_empty (run ∷ others))
  unfolding without_empty
  ends {words} {now} {count = count} holds between = reads words now count holds
  ends {words} {now} {count = count} holds (within {b} {run} {value} digits is below) = go (ltb count (length now)) refl
    where
      go : (room : Bool) → ltb count (length now) ≡ room → goes_on (with_word count value now) ≡ answer (length slice₀) words ((b ∷ run) ∷ without_empty others)
      go true e =
          rw e (reads _ _ _ (one_more holds value (ltb-true count (length now) e)) ∙ answer_word (length slice₀) words (b ∷ run) (without_empty others) (begun_number (within digits is below)))
      go false e =
          rw e (stays now ∙ answer_full (length slice₀) words (b ∷ run) (without_empty others) (omega (arith, ltb-false count (length now) e, counted holds, as_long holds)))

-- ---- The whole input

-- No byte more changes a scan that has failed.
pub failed_stays : (words input : List ℕ) → foldl scan_byte (stands Failed words) input ≡ stands Failed words
unfolding scan_byte
failed_stays words [] = refl
failed_stays words (b ∷ input) = ap (λ s. foldl scan_byte s input) (go (is_space b)) ∙ failed_stays words input
  where
    go : (space : Bool) → cond space (stands Failed words) (stands Failed words) ≡ stands Failed words
    go true = refl
    go false = refl

failed_ends : (words input : List ℕ) → words_at (finish (foldl scan_byte (stands Failed words) input)) ≡ None
failed_ends words input = ap (λ s. words_at (finish s)) (failed_stays words input)

-- A token that begins so is no number.
refused : (most : ℕ) (words run : List ℕ) (b : ℕ) (input : List ℕ) → number_of (run ++ b ∷ []) ≡ None → None ≡ answer most words (without_empty (joined (run ++ b ∷ []) (runs input)))
unfolding without_empty
refused most words run b input is = go run (some_run input) is
  where
    go : (run : List ℕ) {others : List (List ℕ)} → Runs others → number_of (run ++ b ∷ []) ≡ None → None ≡ answer most words (without_empty (joined (run ++ b ∷ []) others))
    go [] (runs_are first others) is = rw (joined_first (b ∷ []) first others) (answer_no_number most words _ _ (no_number_longer (b ∷ []) first is))
    go (a ∷ run) (runs_are first others) is = rw (joined_first (a ∷ run ++ b ∷ []) first others) (answer_no_number most words _ _ (no_number_longer (a ∷ run ++ b ∷ []) first is))

module _ (slice₀ : List ℕ) where
  -- What the rest of an input makes of a state.
  record ReadsRest (input : List ℕ) : Type 0 where
    from : {words now run : List ℕ} {count : ℕ} {token : Option ℕ} → Holds slice₀ words now count → Begun run token →
        words_at (finish (foldl scan_byte (stands (standing count token) now) input)) ≡ answer (length slice₀) words (without_empty (joined run (runs input)))

  module _ (b : ℕ) (input : List ℕ) (rest : ReadsRest input) {words now run : List ℕ} {count : ℕ} {token : Option ℕ} (holds : Holds slice₀ words now count) (begun : Begun run token) where
    abbrev value : ℕ
    value = with_digit (value_so_far token) b

    in_token_lem : words_at (finish (foldl scan_byte (stands (in_token count (value_so_far token) b) now) input)) ≡ answer (length slice₀) words (without_empty (joined (run ++ b ∷ []) (runs input)))
    in_token_lem = go (is_digit b) (ltb value word_limit) refl refl
      where
        go : (digit below : Bool) → is_digit b ≡ digit → ltb value word_limit ≡ below →
            words_at (finish (foldl scan_byte (stands (cond digit (cond below (Inside count value) Failed) Failed) now) input)) ≡
            answer (length slice₀) words (without_empty (joined (run ++ b ∷ []) (runs input)))
        go true true d l = rest.from holds (grows begun b d (ltb-true _ _ l))
        go true false d l = failed_ends now input ∙ refused (length slice₀) words run b input (too_large begun b d (ltb-false _ _ l))
        go false below d l = failed_ends now input ∙ refused (length slice₀) words run b input (no_digit begun b d)

    one_byte : words_at (finish (foldl scan_byte (scan_byte (stands (standing count token) now) b) input)) ≡ answer (length slice₀) words (without_empty (joined run (runs (b ∷ input))))
    unfolding scan_byte runs joined
    one_byte = go (is_space b)
      where
        go : (space : Bool) → words_at (finish (foldl scan_byte (cond space (space_read (standing count token) now) (stands (other_read (standing count token) b) now)) input)) ≡
            answer (length slice₀) words (without_empty (joined run (after_byte space b (runs input))))
        go true =
            rw (joined_ended run (runs input)) (ends (λ s. words_at (finish (foldl scan_byte s input))) (runs input) (λ now. failed_ends now input) (λ words now count holds. rest.from holds between) holds begun)
        go false = rw (joined_longer run b (runs input), other_is count token b) in_token_lem

  reads_rest : (input : List ℕ) → ReadsRest input
  unfolding runs without_empty
  reads_rest [] = record {
    from = λ {run = run} holds begun.
        rw (joined_ended run []) (ends words_at [] (λ now. refl) (λ words now count holds. words_found holds ∙ answer_none (length slice₀) words holds.fits) holds begun);
  }
  reads_rest (b ∷ input) = record { from = λ holds begun. one_byte b input (reads_rest input) holds begun }

-- The words that are found are those of the input, and no more than the slice has.
pub scan_is_words_in : (words input : List ℕ) → words_at (finish (scanned words input)) ≡ words_in (length words) input
unfolding joined
scan_is_words_in words input =
    (reads_rest words input).from (record { written = written_none words 0; fits = omega arith }) between ∙ answer_all (length words) (tokens input)

-- Pieces one after the other are scanned as the whole.
pub scan_in_pieces : (words first second : List ℕ) → scanned words (first ++ second) ≡ foldl scan_byte (scanned words first) second
scan_in_pieces words first second = foldl-append scan_byte (stands (Between 0) words) first second
