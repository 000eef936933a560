-- The cells of a node, of its children and of its operator's result are there.
use Rattle.std.specs.Prelude.{ℕ, ◌<◌, ◌≡◌, Bool, true, false, cond, List, ltb, Some}
use Rattle.std.proofs.Math.Path.{refl}
use Rattle.std.proofs.Common.{arith}
use Rattle.table.specs.Node.{Node, Field, field_a, field_b, field_c, child, node_of, node_at}
use Rattle.table.specs.Asked.{words_at}
use Rattle.table.specs.NodeLaws.{reads_as}
use Rattle.table.specs.declared.NodeWords.{NodeWords}
use Rattle.cells.specs.Layout.{Sound}
use Rattle.inference.specs.TableCells.{HasNode, gives_cell, NodeReady}

pub gives_small : (o : ℕ) → gives_cell o < 4
gives_small o = go (ltb o 5)
  where
    go : (t : Bool) → cond t 2 3 < 4
    go true = omega arith
    go false = omega arith

module _ {words : List ℕ} {k : ℕ} {mem : List ℕ} (r : NodeReady words k mem) where
  pub has_node : {c : ℕ} → c < r.nodes → HasNode mem c
  has_node h = omega (arith, r.cells.whole)

  pub node_ready : Sound mem × HasNode mem k
  node_ready = (r.cells.sound, has_node r.below)

  has_child : {node : Node} → node_at words k ≡ node → (f : Field) {c : ℕ} → child node f ≡ Some c → HasNode mem c
  has_child e f stands = has_node (r.tree_in.closed.tree.descending.inside {f = f} r.below (record { stands = rw e stands }))

  module _ {w : NodeWords} (read : w ≡ words_at words k) where
    pub application_ready : w.kind ≡ 5 → Sound mem × HasNode mem k × HasNode mem w.a × HasNode mem w.b
    unfolding node_of
    application_ready e =
        let is = reads_as words k read e in
        (node_ready.0, node_ready.1, has_child is field_a refl, has_child is field_b refl)

    pub condition_ready : w.kind ≡ 6 → Sound mem × HasNode mem k × HasNode mem w.a × HasNode mem w.b × HasNode mem w.c
    unfolding node_of
    condition_ready e =
        let is = reads_as words k read e in
        (node_ready.0, node_ready.1, has_child is field_a refl, has_child is field_b refl, has_child is field_c refl)

    pub lambda_ready : w.kind ≡ 7 → Sound mem × HasNode mem k × HasNode mem w.b
    unfolding node_of
    lambda_ready e = (node_ready.0, node_ready.1, has_child (reads_as words k read e) field_b refl)

    pub let_ready : w.kind ≡ 8 → Sound mem × HasNode mem k × HasNode mem w.b × HasNode mem w.c
    unfolding node_of
    let_ready e =
        let is = reads_as words k read e in
        (node_ready.0, node_ready.1, has_child is field_b refl, has_child is field_c refl)

    pub rec_ready : w.kind ≡ 9 → Sound mem × HasNode mem k × HasNode mem w.b
    unfolding node_of
    rec_ready e = (node_ready.0, node_ready.1, has_child (reads_as words k read e) field_b refl)
