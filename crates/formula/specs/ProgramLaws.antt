-- The program's parts together.
use Rattle.std.specs.Prelude.{ℕ, ◌≤◌, min, ◌≡◌, refl, Option, Some, None, Result, Ok, Err, List, [], ◌∷◌, ◌++◌, length, take, replicate}
use Rattle.std.proofs.Common.{sym, ◌∙◌, ap, arith}
use Rattle.std.proofs.lemmas.List.{length-replicate}
use Rattle.lent.specs.WrittenLaws.{written_length}
use Rattle.lent.specs.Writing.{first_written}
use Rattle.decimal.specs.Input.{words_in}
use Rattle.decimal.specs.Scan.{ScanState, finish, words_at}
use Rattle.decimal.specs.Decimal.{spaced}
use Rattle.decimal.specs.Puts.{Puts, PutsWithin}
use Rattle.decimal.specs.TextLaws.{puts_within_then}
use Rattle.decimal.specs.declared.text.Text.{Text}
use Rattle.decimal.specs.ScanIsWordsIn.{scan_is_words_in}
use Rattle.inference.specs.Inference.{After, leaves, Infers}
use Rattle.inference.specs.TypeWithin.{type_within}
use Rattle.inference.specs.declared.Untyped.{Untyped}
use Rattle.machine.specs.Runs.{RunIs}
use Rattle.machine.specs.declared.Ran.{Ran}
use Rattle.formula.specs.Lines.{type_line, run_line, input_text, input_line}
use Rattle.formula.specs.LineLaws.{words_shown}
use Rattle.formula.specs.Program.{TwoLines, no_words, answered}
use Rattle.formula.specs.Reading.{input_scanned}
use Rattle.formula.specs.ReadingLaws.{take_within}
use Rattle.formula.specs.Responding.{Responds}

-- ---- The two lines

-- A text of the program's size, of which nothing is written.
pub record Blank (t : Text) : Type 0 where
  pub size : length t.lent.now ≡ 1024
  pub start : t.at ≡ 0

-- The line of a table's inference.
pub record TypeLineIn (words : List ℕ) (before after : Text) : Type 0 where
  pub inferred : After
  pub infers : Infers words (replicate 12304 0) (replicate 64 0) inferred
  pub line : PutsWithin 731 before (type_line inferred.answer inferred.out) after

-- The line of a table's run.
pub record RunLineIn (words : List ℕ) (before after : Text) : Type 0 where
  pub ran : Ran
  pub bindings : List ℕ
  pub frames : List ℕ
  pub runs : RunIs words 100000 (replicate 4096 0) (replicate 4096 0) bindings frames ran
  pub line : PutsWithin 49 before (run_line ran) after

-- What is written of the text is a table's two lines.
pub record TwoLinesIn (words : List ℕ) (t : Text) : Type 0 where
  pub inside : t.at ≤ length t.lent.now
  pub lines : TwoLines words (take t.at t.lent.now)

pub type_fits : {words work out work' out' : List ℕ} {a : Result ℕ Untyped} → Infers words work out (leaves a work' out') → words_shown a ≤ length out
type_fits {words} {work} {out} {work'} {out'} {a} i = go a i
  where
    go : (a : Result ℕ Untyped) → Infers words work out (leaves a work' out') → words_shown a ≤ length out
    go (Ok count) i = type_within i refl
    go (Err untyped) i = omega arith

pub two_lines_fit : {words : List ℕ} {t t₁ t₂ : Text} → Blank t → TypeLineIn words t t₁ → RunLineIn words t₁ t₂ → TwoLinesIn words t₂
two_lines_fit {t = t} blank type run =
    let both = (puts_within_then type.line run.line).written in
    let from_start = rw blank.start at both.written in
    record {
      inside = omega (arith, both.few, from_start.next_is, written_length from_start, blank.size);
      lines = record {
        after = type.inferred;
        infers = type.infers;
        ran = run.ran;
        bindings = run.bindings;
        frames = run.frames;
        runs = run.runs;
        is = first_written from_start (omega (arith, both.few, blank.size));
      };
    }

-- ---- The response

-- What is written of the text are the lines for what was found in an input.
pub data LinesFor (words : Option (List ℕ)) (t : Text) : Type 0 where
  the_input_line : words ≡ None → t.at ≤ length t.lent.now → take t.at t.lent.now ≡ input_line → LinesFor words t
  table_lines : {table : List ℕ} → words ≡ Some table → TwoLinesIn table t → LinesFor words t

pub table_lines_fit : (words : List ℕ) (count : ℕ) {n : ℕ} → n ≡ min count (length words) → {t : Text} → TwoLinesIn (take n words) t → LinesFor (Some (take count words)) t
table_lines_fit words count within two = table_lines refl (rw (within, take_within count words) at two)

pub input_line_fits : {t t' : Text} → Blank t → Puts t (input_text ++ 10 ∷ []) t' → LinesFor None t'
unfolding spaced
input_line_fits blank p =
    let w = rw blank.start at p.written in
    the_input_line refl (omega (arith, w.next_is, written_length w, blank.size)) (first_written w (omega (arith, blank.size)))

pub input_words : (input : List ℕ) → words_at (finish (input_scanned input)) ≡ words_in 2048 input
input_words input = rw (← length-replicate {A = ℕ} 2048 0) (scan_is_words_in (replicate 2048 0) input)

pub responds : {state last : ScanState} {t : Text} → last ≡ finish state → LinesFor (words_at last) t → Responds state t.lent.now t.at
responds {state} {last} {t} ends lines = go lines
  where
    -- The words of every input that leads to the state.
    words_are : (input : List ℕ) → input_scanned input ≡ state → words_in 2048 input ≡ words_at last
    words_are input leads = sym (input_words input) ∙ ap (λ s. words_at (finish s)) leads ∙ ap words_at (sym ends)

    go : LinesFor (words_at last) t → Responds state t.lent.now t.at
    go (the_input_line none_found inside is) = record { inside = inside; to = λ input leads. no_words (words_are input leads ∙ none_found) is }
    go (table_lines is two) = record { inside = two.inside; to = λ input leads. answered (words_are input leads ∙ is) two.lines }
