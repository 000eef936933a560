-- `decimal::scan::Scan::feed` meets its contract. The loop's invariant: what is left of the piece leads to where the whole leads.
use Rattle.std.proofs.Common.{◌≡◌, drop}
use mathlib.Core.List.{foldl}
use Rattle.decimal.specs.Scan.{scan_byte}
use Rattle.decimal.specs.State.{state}
use Rattle.decimal.proofs.scan.Scan.feed.Given as goal

abbrev pub invariant-loop-b : goal.invariant-loop-b
invariant-loop-b l =
    let start = l.initial.scan in
    (l.scan.words.ghost_name ≡ start.words.ghost_name) × (foldl scan_byte (state l.scan) (drop l.b-index l.piece) ≡ foldl scan_byte (state start) l.piece)
