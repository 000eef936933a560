-- What the code of 3 counts: a node's parents below it, and the children of all nodes.
use Rattle.std.specs.Prelude.{ℕ, zero, suc, ◌+◌, Bool, not, ◌&&◌, eqb, is_some}
use Rattle.table.specs.Node.{Node, Nodes, field_a, field_b, field_c, child}
use Rattle.language.specs.Once.{once}
use Rattle.acceptance.specs.Refusals.{times_below}

-- Parents have smaller numbers, so it is enough to look for them below the node.
abbrev pub misplaced_below : Nodes → ℕ → Bool
misplaced_below nd k = not (eqb k 0) && not (eqb (times_below nd k k) 1)

-- How many children fields a node has, and all nodes below n.
abbrev pub children_in : Node → ℕ
children_in node = once (is_some (child node field_a)) + once (is_some (child node field_b)) + once (is_some (child node field_c))

unfoldable pub children_below : Nodes → ℕ → ℕ
children_below nd zero = 0
children_below nd (suc n) = children_below nd n + children_in (nd n)
