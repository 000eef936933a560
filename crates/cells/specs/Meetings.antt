-- Two cells meet: what is written, and what it makes of the satisfying valuations.
use Rattle.std.specs.Prelude.{ℕ, suc, ◌+◌, ◌≤◌, ◌<◌, ◌≡◌, refl, ◌≢◌, ◌↔◌, List, length, Option, Some, None, Result, Ok, Err}
use Rattle.std.proofs.Common.{sym, ◌∙◌, subst, arith, ne_eqb}
use Rattle.std.proofs.Math.Path.{ap}
use Rattle.std.proofs.Math.Dec.{eqb}
use Rattle.language.specs.Ty.{Subst}
use Rattle.language.specs.Once.{once}
use Rattle.language.proofs.Count.{count_changed}
use Rattle.cells.specs.Layout.{MaySay, cell_in, as_words, cell_at, pair_at, store_of, cells_in, Sound}
use Rattle.cells.specs.Solving.{IsRoot, Rooted, is_link_in, links_in, Alike, PartsOf, PartsEqual, TwoRoots, Joined, MetIs, Meeting}
use Rattle.cells.specs.Cells.{Sat}
use Rattle.cells.specs.CellSteps.{free_written, equal_linked, copied_down, arrow_linked, tag, clash, Put}
use Rattle.cells.specs.StoreLaws.{says, may_say, words_allowed, cell_there, cell_beside, store_put, sound_put, tag_of, says_tag, above_one, parts_inside}
use Rattle.cells.specs.Puts.{CellPut}
use Rattle.cells.specs.declared.TypeCell.{TypeCell}
use Rattle.cells.specs.declared.TypeCell.TheVariants.{Free, Link, UnitType, BoolType, IntType, Arrow}
use Rattle.cells.specs.declared.Clash.{Clash}
use Rattle.cells.specs.declared.memory.Words.{Words}
use Rattle.cells.specs.declared.solve.Parts.{Parts}

-- A cell that is not written stays a root.
still_root : {before after : List ℕ} {r : ℕ} → IsRoot before r → length after ≡ length before → cell_at after r ≡ cell_at before r → IsRoot after r
still_root root same kept = record { inside = rw same root.inside; no_link = subst (λ (x : TypeCell). tag x ≢ 1) (sym kept) root.no_link }

-- ---- Links are counted

module _ {before after : List ℕ} {i : ℕ} {w : Words} (p : CellPut before after i w) (root : IsRoot before i) where
  links_change : links_in after ≡ once (eqb (tag (cell_in w)) 1) + links_in before
  unfolding links_in
  links_change =
      let changed = count_changed (is_link_in before) (is_link_in after) i (λ j n. ap (λ (x : TypeCell). eqb (tag x) 1) (cell_beside p j n)) (cells_in before) root.inside in
      let was : once (is_link_in before i) ≡ 0 = ap once (ne_eqb (tag (cell_at before i)) 1 root.no_link) in
      let is : once (is_link_in after i) ≡ once (eqb (tag (cell_in w)) 1) = ap (λ (x : TypeCell). once (eqb (tag x) 1)) (cell_there p) in
      rw p.same_length (omega arith)

  pub link_counted : tag (cell_in w) ≡ 1 → links_in after ≡ suc (links_in before)
  link_counted e =
      let change = links_change in
      let one : once (eqb (tag (cell_in w)) 1) ≡ 1 = rw e refl in
      omega arith

  pub root_not_counted : tag (cell_in w) ≢ 1 → links_in after ≡ links_in before
  root_not_counted n =
      let change = links_change in
      let none : once (eqb (tag (cell_in w)) 1) ≡ 0 = ap once (ne_eqb (tag (cell_in w)) 1 n) in
      omega arith

-- ---- The greater root j is linked to the smaller root i

-- What a root says, any cell may say.
root_anywhere : (n i j : ℕ) (c : TypeCell) → tag c ≢ 1 → MaySay n j c → MaySay n i c
root_anywhere n i j Free m h = tt
root_anywhere n i j (Link k) m h = absurd (m refl)
root_anywhere n i j UnitType m h = tt
root_anywhere n i j BoolType m h = tt
root_anywhere n i j IntType m h = tt
root_anywhere n i j (Arrow l r) m h = h

module _ {before : List ℕ} {i j : ℕ} {low high : Words} (two : TwoRoots before i j low high) where
  low_at : cell_in low ≡ cell_at before i
  low_at = ap cell_in two.low_is

  high_at : cell_in high ≡ cell_at before j
  high_at = ap cell_in two.high_is

  low_known : low.tag ≤ 5
  low_known = rw two.low_is (two.sound.allowed i).tag_known

  high_known : high.tag ≤ 5
  high_known = rw two.high_is (two.sound.allowed j).tag_known

  high_no_link : tag (cell_in high) ≢ 1
  high_no_link = rw high_at two.high_root.no_link

  -- Unless one of them is free, both are a base type or an arrow.
  low_built : low.tag ≢ 0 → 1 < low.tag
  low_built n = above_one n (rw (← (tag_of low low_known)) (rw low_at two.low_root.no_link))

  high_built : high.tag ≢ 0 → 1 < high.tag
  high_built n = above_one n (rw (← (tag_of high high_known)) high_no_link)

  pub roots_alike : low.tag ≢ 0 → low.tag ≡ high.tag → Alike low high
  roots_alike n e = record { same_tag = e; built = low_built n; tag_known = low_known }

  pub copied_meeting : {between after : List ℕ} → low.tag ≡ 0 → CellPut before between i high → CellPut between after j (as_words (Link i)) → Meeting before after i j (Ok None)
  copied_meeting {between} {after} e p q =
      record {
        same_length = q.same_length ∙ p.same_length;
        says = (record { sound = sound_put q sound_between (words_allowed (Link i) two.less); keeps = λ ρ. (λ h. ((step ρ).0 h, tt), λ (h, u). (step ρ).1 h); pairs = λ k. q.pairs k ∙ p.pairs k }, more);
      }
    where
      sound_between : Sound between
      sound_between = sound_put p two.sound (record { tag_known = high_known; may_say = root_anywhere _ i j (cell_in high) high_no_link (may_say two.sound j high_at refl) })

      put_copy : Put (store_of before) (store_of between) i (store_of before j)
      put_copy = subst (Put (store_of before) (store_of between) i) (sym (says before j high_at refl)) (store_put p)

      step : (ρ : Subst) → (Sat ρ (store_of before) × (ρ i ≡ ρ j)) ↔ Sat ρ (store_of after)
      step ρ = copied_down (says before i low_at (rw e refl)) (omega arith) put_copy (store_put q)

      more : links_in before ≤ links_in after
      more =
          let less = two.less in
          let kept = root_not_counted p two.low_root high_no_link in
          let counted = link_counted q (still_root two.high_root p.same_length (cell_beside p j (omega arith))) refl in
          omega arith

  module _ {after : List ℕ} (q : CellPut before after j (as_words (Link i))) where
    counted : links_in after ≡ suc (links_in before)
    counted = link_counted q two.high_root refl

    sound_after : Sound after
    sound_after = sound_put q two.sound (words_allowed (Link i) two.less)

    -- Sat after exactly if Sat before and the two types are equal.
    linked_meeting : ((ρ : Subst) → Sat ρ (store_of after) ↔ (Sat ρ (store_of before) × (ρ j ≡ ρ i))) → Meeting before after i j (Ok None)
    linked_meeting step =
        let more = counted in
        record {
          same_length = q.same_length;
          says = (record { sound = sound_after; keeps = λ ρ. (λ (h, e). ((step ρ).1 (h, sym e), tt), λ (h, u). let (h', e) = (step ρ).0 h in (h', sym e)); pairs = q.pairs }, omega arith);
        }

    pub free_meeting : high.tag ≡ 0 → Meeting before after i j (Ok None)
    free_meeting e = linked_meeting (λ ρ. free_written (says before j high_at (rw e refl)) (store_put q))

    -- They are alike.
    pub alike_meeting : (found : Option Parts) → PartsOf (cell_in low) (cell_in high) found → Meeting before after i j (Ok found)
    alike_meeting None e = linked_meeting (λ ρ. equal_linked (says before j high_at (sym e) ∙ sym (says before i low_at refl)) (omega (arith, two.less)) (store_put q))
    alike_meeting (Some p) (low_arrow, high_arrow) =
        let (low_left, low_right) = parts_inside two.sound i low_at low_arrow in
        let (high_left, high_right) = parts_inside two.sound j high_at high_arrow in
        record {
          same_length = q.same_length;
          says = (record { sound = sound_after; keeps = keeps; pairs = q.pairs }, counted, rw q.same_length (low_left, high_left, low_right, high_right));
        }
      where
        keeps : (ρ : Subst) → (Sat ρ (store_of before) × (ρ i ≡ ρ j)) ↔ (Sat ρ (store_of after) × PartsEqual p ρ)
        keeps ρ =
            let (to, from) = arrow_linked {ρ = ρ} (says before j high_at high_arrow) (says before i low_at low_arrow) (omega (arith, two.less)) (store_put q) in (
              λ (h, e). let (h', l, r) = to (h, sym e) in (h', (sym l, sym r)),
              λ (h, (l, r)). let (h', e) = from (h, sym l, sym r) in (h', sym e),
            )

  pub clash_meeting : {e : Clash} → low.tag ≢ 0 → high.tag ≢ 0 → low.tag ≢ high.tag → Meeting before before i j (Err e)
  clash_meeting n m d =
      let low_says : tag (store_of before i) ≡ low.tag = rw two.low_is (says_tag two.sound i) in
      let high_says : tag (store_of before j) ≡ high.tag = rw two.high_is (says_tag two.sound j) in
      record {
        same_length = refl;
        says = λ ρ. clash (rw low_says (low_built n)) (rw high_says (high_built m)) (λ e. d (sym low_says ∙ e ∙ high_says));
      }

-- ---- Cells meet by way of their roots

pub meeting_is : {before after : List ℕ} {i j : ℕ} {met met' : Result (Option Parts) Clash} → Meeting before after i j met → met ≡ met' → Meeting before after i j met'
meeting_is {before} {after} {i} {j} m e = subst (Meeting before after i j) e m

-- Who is named first plays no part.
pub meeting_turned : {before after : List ℕ} {i j : ℕ} {met : Result (Option Parts) Clash} → Meeting before after j i met → Meeting before after i j met
meeting_turned {before} {after} {i} {j} {met} m = record { same_length = m.same_length; says = go met m.says }
  where
    turned : {rest : Subst → Type 0} → Joined before after j i rest → Joined before after i j rest
    turned w = record { sound = w.sound; keeps = λ ρ. (λ (h, e). (w.keeps ρ).0 (h, sym e), λ h. let (h', e) = (w.keeps ρ).1 h in (h', sym e)); pairs = w.pairs }

    go : (met : Result (Option Parts) Clash) → MetIs before after j i met → MetIs before after i j met
    go (Err _) none = λ ρ h e. none ρ h (sym e)
    go (Ok None) (w, more) = (turned w, more)
    go (Ok (Some p)) (w, more, inside) = (turned w, more, inside)

-- A root meets itself.
pub self_meeting : {mem : List ℕ} {i j : ℕ} → Sound mem → i ≡ j → Meeting mem mem i j (Ok None)
self_meeting sound e = record {
  same_length = refl;
  says = (record { sound = sound; keeps = λ ρ. (λ (h, q). (h, tt), λ (h, u). (h, ap ρ e)); pairs = λ k. refl }, omega arith);
}

module _ {first second third : List ℕ} {i j p q : ℕ} (to_p : Rooted first second i p) (to_q : Rooted second third j q) where
  -- Two cells are equal exactly if their roots are.
  roots_equal : (ρ : Subst) → (Sat ρ (store_of first) × (ρ i ≡ ρ j)) ↔ (Sat ρ (store_of third) × (ρ p ≡ ρ q))
  roots_equal ρ = (
    λ (h, e).
        let h₂ = (to_p.way.keeps ρ).0 h in
        let h₃ = (to_q.way.keeps ρ).0 h₂ in
        (h₃, sym (to_p.way.equal ρ h₂) ∙ e ∙ to_q.way.equal ρ h₃),
    λ (h₃, e).
        let h₂ = (to_q.way.keeps ρ).1 h₃ in
        ((to_p.way.keeps ρ).1 h₂, to_p.way.equal ρ h₂ ∙ e ∙ sym (to_q.way.equal ρ h₃)),
  )

  pairs_as_before : (k : ℕ) → pair_at third k ≡ pair_at first k
  pairs_as_before k = to_q.way.pairs k ∙ to_p.way.pairs k

  links_as_before : links_in third ≡ links_in first
  links_as_before = to_q.way.same_links ∙ to_p.way.same_links

  -- What is a root stays one while another path is shortened.
  pub roots_ready : Sound third × IsRoot third p × IsRoot third q
  roots_ready = (to_q.way.sound, still_root to_p.root to_q.way.same_length (to_q.way.roots p to_p.root.no_link), to_q.root)

  pub roots_meet : {after : List ℕ} {met : Result (Option Parts) Clash} → Meeting third after p q met → Meeting first after i j met
  roots_meet {after} {met} m = record { same_length = m.same_length ∙ to_q.way.same_length ∙ to_p.way.same_length; says = go met m.says }
    where
      further : {rest : Subst → Type 0} → Joined third after p q rest → Joined first after i j rest
      further w =
          record {
            sound = w.sound;
            keeps = λ ρ. (λ h. (w.keeps ρ).0 ((roots_equal ρ).0 h), λ h. (roots_equal ρ).1 ((w.keeps ρ).1 h));
            pairs = λ k. w.pairs k ∙ pairs_as_before k;
          }

      go : (met : Result (Option Parts) Clash) → MetIs third after p q met → MetIs first after i j met
      go (Err _) none = λ ρ h e. let (h', e') = (roots_equal ρ).0 (h, e) in none ρ h' e'
      go (Ok None) (w, more) = (further w, rw (← links_as_before) more)
      go (Ok (Some p)) (w, more, inside) = (further w, rw (← links_as_before) more, inside)
