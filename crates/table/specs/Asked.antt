-- What a table answers when it is asked for the words of a node and for the binder of a name.
use Rattle.std.specs.Prelude.{ℕ, ◌+◌, ◌*◌, cond, List, ltb, Option, None}
use Rattle.table.specs.Node.{word_at, node_at, count_of}
use Rattle.table.specs.Scope.{binder_of}
use Rattle.table.specs.declared.NodeWords.{NodeWords}

-- The words of node k; a word past the end is 0.
abbrev pub words_at : List ℕ → ℕ → NodeWords
words_at words k =
    record {
      kind = word_at words (4 * k);
      a = word_at words (4 * k + 1);
      b = word_at words (4 * k + 2);
      c = word_at words (4 * k + 3);
    }

-- The binder of node k of a table. A node that is no name or is not there has none.
abbrev pub binder_in : List ℕ → ℕ → Option ℕ
binder_in words k = cond (ltb k (count_of words)) (binder_of (node_at words) k) None
