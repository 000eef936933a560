-- `cells::write::root` meets its contract. The loop's invariant: the current cell is not above cell i and evaluates as it does.
use Rattle.std.proofs.Common.{◌≤◌}
use Rattle.language.specs.Ty.{Ty}
use Rattle.cells.specs.Cells.{Ev}
use Rattle.cells.specs.Layout.{store_of}
use Rattle.cells.proofs.write.root.Given as goal

abbrev pub invariant-loop-next : goal.invariant-loop-next
invariant-loop-next l = (l.r ≤ l.i) × ((τ : Ty) → Ev (store_of l.cells) l.i τ → Ev (store_of l.cells) l.r τ)

abbrev pub decreases-loop-next : goal.decreases-loop-next
decreases-loop-next l = l.r
