-- What the program prints for an input.
use Rattle.std.specs.Prelude.{ℕ, ◌≡◌, List, ◌++◌, replicate, None, Some}
use Rattle.inference.specs.Inference.{After, Infers}
use Rattle.machine.specs.Runs.{RunIs}
use Rattle.machine.specs.declared.Ran.{Ran}
use Rattle.decimal.specs.Input.{words_in}
use Rattle.formula.specs.Lines.{type_line, run_line, input_line}

-- The answers to a table, as two lines: work slice 12,304 words, out slice 64 words, fuel 100000, capacities 512 each, at eight words a cell.
pub record TwoLines (words text : List ℕ) : Type 0 where
  pub after : After
  pub infers : Infers words (replicate 12304 0) (replicate 64 0) after
  pub ran : Ran
  pub bindings : List ℕ
  pub frames : List ℕ
  pub runs : RunIs words 100000 (replicate 4096 0) (replicate 4096 0) bindings frames ran
  pub is : text ≡ type_line after.answer after.out ++ run_line ran

-- An input that has no words gives the one line `input`.
pub data Prints (input text : List ℕ) : Type 0 where
  no_words : words_in 2048 input ≡ None → text ≡ input_line → Prints input text
  answered : {words : List ℕ} → words_in 2048 input ≡ Some words → TwoLines words text → Prints input text
