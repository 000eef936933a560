-- The table as the code reads it: a node in four words, and what a walk sees of it.
use Rattle.std.specs.Prelude.{ℕ, ◌+◌, Bool, true, false, ◌&&◌, List, [], Option, None, Some}
use Rattle.language.specs.Expression.{Name}
use Rattle.table.specs.Node.{Node, Nodes, Field, word_at, node_of}
use Rattle.table.specs.Walk.{field_holding, climb_from}
use Rattle.table.specs.Scope.{binds_in, enter, is_named, first_named}
use Rattle.table.specs.declared.NodeWords.{NodeWords}
use Rattle.table.specs.declared.binders.Met.{Met}
use Rattle.table.specs.declared.binders.Met.TheVariants.{Elsewhere, Above, Binding}

-- ---- A node

abbrev pub node_in : NodeWords → Node
node_in w = node_of w.kind w.a w.b w.c

-- The node in words i to i + 3.
abbrev pub node_from : List ℕ → ℕ → Node
node_from words i = node_of (word_at words i) (word_at words (i + 1)) (word_at words (i + 2)) (word_at words (i + 3))

-- ---- Binders

-- A node met on the walk from k in search of the name x: no parent of the current node, its parent, or its parent that binds x there.
abbrev pub met_as : Bool → Met
met_as true = Binding
met_as false = Above

abbrev pub met_in : Option Field → Name → Node → Met
met_in None x node = Elsewhere
met_in (Some f) x node = met_as (binds_in node f && is_named x node)

abbrev pub met : Node → Name → ℕ → Met
met node x current = met_in (field_holding current node) x node

-- What the walk comes to at node p: the binder, where it ends, or it goes on in search of the parent of the current node, or of p where p is its parent.
abbrev pub walked_as : Met → ℕ → ℕ → Option ℕ
walked_as Elsewhere current p = Some current
walked_as Above current p = Some p
walked_as Binding current p = None

abbrev pub walked : Node → Name → ℕ → ℕ → Option ℕ
walked node x current p = walked_as (met node x current) current p

-- The same where the child and the name have been compared.
abbrev pub binding_if : Bool → Bool → Met
binding_if true named = met_as named
binding_if false named = Elsewhere

abbrev pub above_if : Bool → Bool → Bool → Met
above_if true q s = Above
above_if false true s = Above
above_if false false true = Above
above_if false false false = Elsewhere

abbrev pub let_met : Bool → Bool → Bool → Met
let_met true body named = Above
let_met false body named = binding_if body named

-- What the walk from `current` finds among the nodes below p.
abbrev pub found_below : Nodes → Name → ℕ → ℕ → Option ℕ
found_below nd x current p = first_named nd x (climb_from [] (enter nd) nd current p)
