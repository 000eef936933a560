-- Code 4 at a node, by what the walk from it finds.
use Rattle.std.specs.Prelude.{ℕ, ◌≡◌, refl, false, not, List, Option, is_some}
use Rattle.std.proofs.Common.{ap}
use Rattle.table.specs.Node.{node_at}
use Rattle.table.specs.Asked.{words_at}
use Rattle.table.specs.Reading.{found_below}
use Rattle.table.specs.NodeLaws.{read_name, read_no_name}
use Rattle.table.specs.declared.NodeWords.{NodeWords}
use Rattle.acceptance.specs.Refusals.{unbound}

module _ (words : List ℕ) (k : ℕ) {w : NodeWords} (read : w ≡ words_at words k) where
  pub no_name_unbound : (w.kind ≡ 4 → ⊥) → unbound (node_at words) k ≡ false
  no_name_unbound h = rw (read_no_name words k (rw read at h)) refl

  pub name_unbound : {found : Option ℕ} → w.kind ≡ 4 → found_below (node_at words) w.a k k ≡ found → unbound (node_at words) k ≡ not (is_some found)
  name_unbound h e = rw (read_name words k (rw read at h)) (ap (λ o. not (is_some o)) (rw read at e))
