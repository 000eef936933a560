-- `table::nodes::read` meets its contract: a whole node is read at once, any other word by word.
use Rattle.table.proofs.nodes.read.Goals as goal

pub returns : goal.returns
returns c =
    λ t. record {
      kind = c.word_or_zero.ensures t;
      a = c.word_or_zero-2.ensures t;
      b = c.word_or_zero-3.ensures t;
      c = c.word_or_zero-4.ensures t;
    }
