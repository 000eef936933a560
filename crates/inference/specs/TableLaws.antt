-- The equations of a table, node by node, in cells that are all free at first.
use Rattle.std.specs.Prelude.{ℕ, ◌+◌, ◌<◌, ◌≡◌, refl, ◌↔◌, List, Result, Ok, Err, IsErr}
use Rattle.std.proofs.Common.{◌∙◌, arith}
use Rattle.std.proofs.Math.Numerals.{add-one}
use Rattle.language.specs.Ty.{Subst}
use Rattle.language.specs.Unification.{none_left}
use Rattle.language.proofs.MostGeneral.{solves_append, solves_split}
use Rattle.table.specs.Node.{node_at}
use Rattle.equations.specs.Equations.{equations_below}
use Rattle.equations.proofs.NodeByNode.{solves_each, solves_below}
use Rattle.cells.specs.Interface.{Started, Outcome}
use Rattle.cells.specs.Starting.{started_sound, started_constants}
use Rattle.cells.specs.Outcomes.{outcome_for, outcome_then}
use Rattle.cells.specs.declared.Clash.{Clash}
use Rattle.inference.specs.TableCells.{TreeRoom, unknowns, NodeSolved, NodesSolved, NodesReady, NodeReady}

-- ---- New cells

pub started_ready : {words : List ℕ} {n : ℕ} {before new : List ℕ} → TreeRoom words n before → Started before new → NodesReady words n new
started_ready r s = record {
  tree_in = r.tree_in;
  cells = record {
    sound = started_sound s (omega (arith, r.whole)) (omega (arith, r.whole)) (omega (arith, r.whole, r.small));
    whole = s.same_length ∙ r.whole;
    constants = λ ρ. (started_constants s ρ).0;
  };
}

-- ---- Node by node

module _ {words : List ℕ} {n : ℕ} {start : List ℕ} (t : NodesReady words n start) where
  pub no_node_yet : {u : Unit {0}} → Outcome start start (NodesSolved words 0) (Ok u)
  unfolding equations_below
  no_node_yet = record { same_length = refl; says = record { sound = t.cells.sound; keeps = λ ρ. (λ (h, s). h, λ h. (h, none_left)) } }

  module _ {mem : List ℕ} {k : ℕ} {u : Unit {0}} (below : k < n) (so_far : Outcome start mem (NodesSolved words k) (Ok u)) where
    pub next_ready : NodeReady words k mem
    next_ready = record {
      nodes = n;
      tree_in = t.tree_in;
      below = below;
      cells = record {
        sound = so_far.says.sound;
        whole = so_far.same_length ∙ t.cells.whole;
        constants = λ ρ h. t.cells.constants ρ ((so_far.says.keeps ρ).1 h).0;
      };
    }

    node_more : (ρ : Subst) → NodesSolved words (k + 1) ρ ↔ (NodesSolved words k ρ × NodeSolved words k ρ)
    unfolding equations_below
    node_more ρ = rw add-one (solves_split (equations_below (node_at words) k) _, λ (before, last). solves_append before last)

    pub node_solved_too : {after : List ℕ} {v : Unit {0}} → Outcome mem after (NodeSolved words k) (Ok v) → Outcome start after (NodesSolved words (k + 1)) (Ok v)
    node_solved_too o = outcome_for (λ ρ h. node_more ρ) (outcome_then so_far refl o)

    -- Where the equations of node k cannot be solved after those below, those of the table cannot.
    pub node_fails : {after : List ℕ} {e : Clash} (r : Result (Unit {0}) Clash) → IsErr r → Outcome mem after (NodeSolved words k) (Err e) → Outcome start after (NodesSolved words n) r
    node_fails (Ok _) failed o = absurd (let z : ◌≡◌ {A = ℕ} 0 1 = cc in omega arith)
    node_fails (Err _) failed o =
        let both = outcome_then so_far refl o in
        record {
          same_length = both.same_length;
          says = λ ρ h s.
              let each = solves_each (node_at words) (unknowns ρ) n s in
              both.says ρ h (solves_below (node_at words) (unknowns ρ) k (λ j low. each j (omega arith)), each k below);
        }
