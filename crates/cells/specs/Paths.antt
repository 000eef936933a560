-- Paths of links are shortened on the way to a root.
use Rattle.std.specs.Prelude.{ℕ, ◌<◌, ◌≡◌, refl, ◌≢◌, ◌↔◌, List}
use Rattle.std.proofs.Common.{sym, ◌∙◌, arith}
use Rattle.std.proofs.Math.Path.{ap}
use Rattle.std.proofs.Math.Decide.{ℕ_discrete}
use Rattle.std.proofs.Math.Dec.{eqb}
use Rattle.language.specs.Ty.{Subst}
use Rattle.language.proofs.Count.{count_same}
use Rattle.cells.specs.Solving.{Rooted, is_link_in, links_in, Shortened}
use Rattle.cells.specs.Cells.{Sat}
use Rattle.cells.specs.CellSteps.{tag, fits_at, path_shortened}
use Rattle.cells.specs.Layout.{as_words, cell_at, store_of, cells_in, Sound}
use Rattle.cells.specs.StoreLaws.{link_falls, store_put, sound_put, says, words_allowed, cell_there, cell_beside}
use Rattle.cells.specs.Puts.{CellPut}
use Rattle.cells.specs.declared.TypeCell.{TypeCell}
use Rattle.cells.specs.declared.TypeCell.TheVariants.{Link}

-- ---- The way

pub nothing_shortened : {mem : List ℕ} {i : ℕ} → Sound mem → i < cells_in mem → Shortened mem mem i i
nothing_shortened s inside =
    record {
      same_length = refl;
      sound = s;
      keeps = λ ρ. (λ sat. sat, λ sat. sat);
      equal = λ ρ sat. refl;
      inside = inside;
      same_links = refl;
      pairs = λ k. refl;
      roots = λ k n. refl;
    }

module _ {before after : List ℕ} {i at : ℕ} (w : Shortened before after i at) where
  -- It ends at a root.
  pub at_root : {x : TypeCell} → x ≡ cell_at after at → tag x ≢ 1 → Rooted before after i at
  at_root x_is no_link = record { way = w; root = record { inside = w.inside; no_link = rw x_is at no_link } }

  module _ {x : TypeCell} {next : ℕ} (x_is : x ≡ cell_at after at) (linked : x ≡ Link next) where
    at_link : store_of after at ≡ Link next
    at_link = says after at x_is linked

    is_linked : tag (cell_at after at) ≡ 1
    is_linked = ap tag (sym x_is ∙ linked)

    next_below : next < at
    next_below = link_falls w.sound at x_is linked

    -- It goes on to the next cell.
    pub one_further : Shortened before after i next
    one_further =
        let down = next_below in
        let so_far = w.inside in
        record {
          same_length = w.same_length;
          sound = w.sound;
          keeps = w.keeps;
          equal = λ ρ sat. w.equal ρ sat ∙ fits_at sat at_link;
          inside = omega arith;
          same_links = w.same_links;
          pairs = w.pairs;
          roots = w.roots;
        }

-- It goes on past the next cell,
module _ {before after : List ℕ} {i at : ℕ} (w : Shortened before after i at) {x y : TypeCell} {next past : ℕ} (x_is : x ≡ cell_at after at) (linked : x ≡ Link next)
    (y_is : y ≡ cell_at after next) (linked_next : y ≡ Link past) where
  pub past_below : past < at
  past_below =
      let down = next_below w x_is linked in
      let down' = next_below (one_further w x_is linked) y_is linked_next in
      omega arith

  -- and the link with it.
  module _ {shorter : List ℕ} (p : CellPut after shorter at (as_words (Link past))) where
    kept : (ρ : Subst) → Sat ρ (store_of after) ↔ Sat ρ (store_of shorter)
    kept ρ =
        let down = next_below w x_is linked in
        path_shortened (at_link w x_is linked) (at_link (one_further w x_is linked) y_is linked_next) (omega arith) (store_put p)

    links_same : links_in shorter ≡ links_in after
    unfolding links_in
    links_same = rw p.same_length (count_same (is_link_in shorter) (is_link_in after) (λ j. go j (ℕ_discrete j at)) (cells_in after))
      where
        go : (j : ℕ) → Dec (j ≡ at) → is_link_in shorter j ≡ is_link_in after j
        go j (yes e) = rw e (ap (λ (z : TypeCell). eqb (tag z) 1) (cell_there p) ∙ rw (is_linked w x_is linked) refl)
        go j (no n) = ap (λ (z : TypeCell). eqb (tag z) 1) (cell_beside p j n)

    pub link_past : Shortened before shorter i past
    link_past =
        let down = past_below in
        let so_far = w.inside in
        record {
          same_length = p.same_length ∙ w.same_length;
          sound = sound_put p w.sound (words_allowed (Link past) down);
          keeps = λ ρ. (λ sat. (kept ρ).0 ((w.keeps ρ).0 sat), λ sat. (w.keeps ρ).1 ((kept ρ).1 sat));
          equal = λ ρ sat. w.equal ρ ((kept ρ).1 sat) ∙ fits_at sat (store_put p).there;
          inside = rw p.same_length (omega arith);
          same_links = links_same ∙ w.same_links;
          pairs = λ k. p.pairs k ∙ w.pairs k;
          roots = λ k n. cell_beside p k (λ e. n (ap tag (sym (w.roots k n)) ∙ rw e (is_linked w x_is linked))) ∙ w.roots k n;
        }
