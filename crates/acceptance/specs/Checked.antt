-- What the check's acceptance says of a table; `Accepted` proves that code 0 says this and no more.
use Rattle.std.specs.Prelude.{ℕ, ◌*◌, ◌≤◌, ◌<◌, ◌≡◌, true, List, length}
use Rattle.table.specs.Node.{node_at}
use Rattle.table.specs.Tree.{ClosedTree}
use Rattle.acceptance.specs.Refusals.{fits}

-- The words are a checked table with n nodes.
pub record Checked (words : List ℕ) (n : ℕ) : Type 0 where
  pub length_is : length words ≡ 4 * n
  pub at_most_512 : n ≤ 512
  pub fields : (k : ℕ) → k < n → fits words n k ≡ true
  pub closed : ClosedTree (node_at words) n
