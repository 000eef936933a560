-- `host::read_table` meets its contract.
use Rattle.std.proofs.Common.{sym, ◌∙◌}
use Rattle.host.specs.TableWords.{none_read, all_read}
use Rattle.host.proofs.read_table.Goals as goal

pub returns-then-wrong_length : goal.returns-then-wrong_length
returns-then-wrong_length c = none_read _ _ (sym c.wrong_length.ensures ∙ c.if-wrong_length.true)

pub returns : goal.returns
returns c =
    all_read c.args.table.now c.args.words.now (sym c.wrong_length.ensures ∙ c.if-wrong_length.false) c.requires c.read_words.ensures
