-- What the program writes is what is printed for an input of which the pieces that it names are the beginning, and the whole where reading
-- came to the end.
use Rattle.std.specs.Prelude.{ℕ, ◌+◌, ◌<◌, ◌≡◌, refl, ◌≢◌, length, take, replicate, Option, Some, None}
use Rattle.std.proofs.Common.{sym, ◌∙◌, ap, arith, length-append}
use mathlib.Core.List.{List, [], ◌∷◌, ◌++◌, foldl, flatten}
use Rattle.decimal.specs.Scan.{ScanState, stands, scan_byte, finish, words_at}
use Rattle.decimal.specs.ScanIsWordsIn.{failed_stays, scan_in_pieces}
use Rattle.decimal.specs.declared.Scanner.TheVariants.{Failed, Between, Inside}
use Rattle.formula.specs.Lines.{input_line}
use Rattle.formula.specs.Program.{Prints, no_words, answered}
use Rattle.formula.specs.Reading.{input_scanned, given_up, after_reads, ReadingEnds, at_the_end, scan_failed, read_failed, turns_used_up, PiecesOf}
use Rattle.formula.specs.Turns.{InputRead}
use Rattle.formula.specs.ReadingLaws.{pieces_within}
use Rattle.formula.specs.Responding.{Responds, AnswersInput}
use Rattle.formula.specs.ProgramLaws.{input_words}

pub read_and_answered : {got : Option ℕ} {last : ScanState} {text : List ℕ} {n : ℕ} → InputRead got last → Responds last text n → AnswersInput got text n
read_and_answered read responds = record { reads = read.reads; responds = rw read.leads at responds }

-- That is printed for the whole input, though no more of it is read once its scan has failed.
pub answers_whole_input : {input text : List ℕ} {got : Option ℕ} {n : ℕ} (answers : AnswersInput got text n) → PiecesOf input answers.reads.pieces got → length input < 18446744073709551616 →
    Prints input (take n text)
answers_whole_input {input} {text} {got} {n} answers given short =
    answers.responds.to input (ap input_scanned given.begins ∙ scan_in_pieces (replicate 2048 0) read given.rest ∙ leads answers.reads.ends ∙ sym (as_scanned got given.none_failed))
  where
    read : List ℕ
    read = flatten answers.reads.pieces

    as_scanned : (got : Option ℕ) → got ≢ None → after_reads got read ≡ input_scanned read
    as_scanned (Some n) none_failed = refl
    as_scanned None none_failed = absurd (none_failed refl)

    leads : ReadingEnds answers.reads.pieces got → foldl scan_byte (input_scanned read) given.rest ≡ input_scanned read
    leads (at_the_end is) = rw (given.at_its_end is)
    leads (scan_failed {words} is) = rw is (failed_stays words given.rest)
    leads (read_failed is) = absurd (given.none_failed is)
    leads (turns_used_up many) =
        let longer : length input ≡ length read + length given.rest = ap length given.begins ∙ length-append read given.rest in
        absurd (omega (arith, pieces_within answers.reads.none_empty))

-- Byte 0 is no digit and no white space.
gives_up : (s : ScanState) → scan_byte s 0 ≡ given_up s
unfolding scan_byte
gives_up (stands Failed words) = refl
gives_up (stands (Between count) words) = refl
gives_up (stands (Inside count value) words) = refl

-- After a read that failed the one line `input` is written: the answer is that of an input with such a byte behind what was read.
pub answers_no_input : {text : List ℕ} {n : ℕ} → AnswersInput None text n → take n text ≡ input_line
unfolding scan_byte
answers_no_input answers = go (answers.responds.to (read ++ 0 ∷ []) leads)
  where
    read : List ℕ
    read = flatten answers.reads.pieces

    leads : input_scanned (read ++ 0 ∷ []) ≡ given_up (input_scanned read)
    leads = scan_in_pieces (replicate 2048 0) read (0 ∷ []) ∙ gives_up (input_scanned read)

    go : {text : List ℕ} → Prints (read ++ 0 ∷ []) text → text ≡ input_line
    go (no_words found is) = is
    go (answered words_are two) =
        let same = ap (λ s. words_at (finish s)) (sym leads) ∙ input_words (read ++ 0 ∷ []) ∙ words_are in
        absurd (let z : ◌≡◌ {A = ℕ} 0 1 = cc in omega arith)
