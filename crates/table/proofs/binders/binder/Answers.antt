-- `table::binders::binder` meets its contract: a node that is there is read, and a name looked up in its scope.
use Rattle.std.proofs.Common.{lt-ltb, refl}
use Rattle.table.specs.NodeLaws.{read_name, read_no_name}
use Rattle.table.proofs.binders.binder.Goals as goal

pub returns-then-w-eq4 : goal.returns-then-w-eq4
returns-then-w-eq4 c =
    let read = c.node_at-w.ensures in
    rw (lt-ltb _ _ c.if-words-k.false, read_name _ _ (rw read at c.if-w-eq4.true)) (rw read at c.lookup.ensures)

pub returns-else-w-eq4 : goal.returns-else-w-eq4
returns-else-w-eq4 c = rw (lt-ltb _ _ c.if-words-k.false, read_no_name _ _ (rw c.node_at-w.ensures at c.if-w-eq4.false)) refl
