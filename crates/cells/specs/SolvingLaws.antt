-- The solver's loop: what is demanded of valuations stays the same while cells meet, and its work falls.
use Rattle.std.specs.Prelude.{ℕ, suc, ◌+◌, ◌-◌, ◌*◌, ◌≤◌, ◌<◌, ◌≡◌, refl, ◌≢◌, ◌↔◌, List, length, Option, Some, None, Result, Ok, Err}
use Rattle.std.proofs.Common.{sym, ◌∙◌, subst, arith, ne_eqb}
use Rattle.std.proofs.Math.Path.{ap}
use Rattle.std.proofs.Math.Decide.{ℕ_discrete}
use Rattle.std.proofs.Math.Dec.{eqb}
use Rattle.language.specs.Ty.{Subst}
use Rattle.language.proofs.Count.{count_same, count_but_0}
use Rattle.cells.specs.Cells.{Sat}
use Rattle.cells.specs.CellSteps.{tag}
use Rattle.cells.specs.Layout.{cell_in, cell_at, pair_at, store_of, cells_in, Sound}
use Rattle.cells.specs.StoreLaws.{link_falls, store_beside, sound_beside}
use Rattle.cells.specs.Solving.{is_link_in, links_in, Pending, AllEqual, PairsInside, Joined, Meeting}
use Rattle.cells.specs.Puts.{PairPut}
use Rattle.cells.specs.Interface.{Outcome}
use Rattle.cells.specs.Meetings.{meeting_is}
use Rattle.cells.specs.declared.TypeCell.{TypeCell}
use Rattle.cells.specs.declared.TypeCell.TheVariants.{Free, Link, UnitType, BoolType, IntType, Arrow}
use Rattle.cells.specs.declared.memory.Pair.{Pair}
use Rattle.cells.specs.declared.Clash.{Clash}
use Rattle.cells.specs.declared.solve.Parts.{Parts}

-- ---- Pending pairs

-- The pairs of one memory in another.
module _ {before after : List ℕ} (same : (k : ℕ) → pair_at after k ≡ pair_at before k) where
  pub pending_kept : {ρ : Subst} {n : ℕ} → Pending ρ before n → Pending ρ after n
  pending_kept {ρ} h = record { at = λ k below. subst (λ (x : Pair). ρ x.left ≡ ρ x.right) (sym (same k)) (h.at k below) }

  pub pairs_inside_kept : {n : ℕ} → length after ≡ length before → PairsInside before n → PairsInside after n
  pairs_inside_kept e h =
      record { at = λ k below. subst (λ (x : Pair). (x.left < cells_in after) × (x.right < cells_in after)) (sym (same k)) (rw e (h.at k below)) }

module _ {ρ : Subst} {mem : List ℕ} {n : ℕ} where
  -- The newest pair is one of them.
  pub pending_newest : {x : Pair} → n ≢ 0 → x ≡ pair_at mem (n - 1) → Pending ρ mem n ↔ ((ρ x.left ≡ ρ x.right) × Pending ρ mem (n - 1))
  pending_newest {x} some x_is = (
    λ h. (subst (λ (y : Pair). ρ y.left ≡ ρ y.right) (sym x_is) (h.at (n - 1) (omega arith)), record { at = λ k below. h.at k (omega arith) }),
    λ (e, h). record { at = λ k below. go h k below (ℕ_discrete k (n - 1)) (subst (λ (y : Pair). ρ y.left ≡ ρ y.right) x_is e) },
  )
    where
      go : Pending ρ mem (n - 1) → (k : ℕ) → k < n → Dec (k ≡ n - 1) → ρ (pair_at mem (n - 1)).left ≡ ρ (pair_at mem (n - 1)).right → ρ (pair_at mem k).left ≡ ρ (pair_at mem k).right
      go h k below (yes is) e = rw is e
      go h k below (no not) e = h.at k (omega arith)

-- ---- The loop

pub record Running (before : List ℕ) (i j pending : ℕ) (mem : List ℕ) (a b left : ℕ) : Type 0 where
  pub same_length : length mem ≡ length before
  pub sound : Sound mem
  pub a_inside : a < cells_in mem
  pub b_inside : b < cells_in mem
  pub pairs_inside : PairsInside mem left
  pub few : left ≤ suc (links_in mem)
  pub keeps : (ρ : Subst) → (Sat ρ (store_of before) × AllEqual before i j pending ρ) ↔ (Sat ρ (store_of mem) × AllEqual mem a b left ρ)

-- Each meeting ends a pair, or makes a root a link and puts one pair more.
abbrev pub work : List ℕ → ℕ → ℕ
work mem left = 2 * (cells_in mem - links_in mem) + left

pub solving_starts : {mem : List ℕ} {i j pending : ℕ} → Sound mem → i < cells_in mem → j < cells_in mem → PairsInside mem pending → pending ≤ 1 → Running mem i j pending mem i j pending
solving_starts s i_in j_in pairs few =
    record { same_length = refl; sound = s; a_inside = i_in; b_inside = j_in; pairs_inside = pairs; few = omega arith; keeps = λ ρ. (λ h. h, λ h. h) }

-- Cell 0 is no link, since links lead down.
links_few : {mem : List ℕ} → Sound mem → 0 < cells_in mem → links_in mem < cells_in mem
unfolding links_in
links_few {mem} s some = count_but_0 (is_link_in mem) (cells_in mem) some (ne_eqb (tag (cell_at mem 0)) 1 (first_no_link (cell_at mem 0) refl))
  where
    first_no_link : (c : TypeCell) → c ≡ cell_at mem 0 → tag c ≢ 1
    first_no_link Free e = λ is. absurd (omega arith)
    first_no_link (Link j) e = λ is. let down = link_falls s 0 e refl in omega arith
    first_no_link UnitType e = λ is. absurd (omega arith)
    first_no_link BoolType e = λ is. absurd (omega arith)
    first_no_link IntType e = λ is. absurd (omega arith)
    first_no_link (Arrow l r) e = λ is. absurd (omega arith)

module _ {before mem after : List ℕ} {i j pending a b left : ℕ} {met : Result (Option Parts) Clash} (r : Running before i j pending mem a b left) (meeting : Meeting mem after a b met) where
  pub lengths : length after ≡ length before
  lengths = meeting.same_length ∙ r.same_length

  pub solving_clashes : {e e' : Clash} → met ≡ Err e → Outcome before after (AllEqual before i j pending) (Err e')
  solving_clashes told =
      let m = meeting_is meeting told in
      record { same_length = lengths; says = λ ρ h d. let (h', (e, p)) = (r.keeps ρ).0 (h, d) in m.says ρ h' e }

  module _ (told : met ≡ Ok None) where
    joined : Joined mem after a b (λ ρ. Unit)
    joined = (meeting_is meeting told).says.0

    links_kept : links_in mem ≤ links_in after
    links_kept = (meeting_is meeting told).says.1

    -- The pair is done; the others stand as they stood.
    done : (ρ : Subst) → (Sat ρ (store_of before) × AllEqual before i j pending ρ) ↔ (Sat ρ (store_of after) × Pending ρ after left)
    done ρ = (
      λ h.
          let (h', (e, p)) = (r.keeps ρ).0 h in
          (((joined.keeps ρ).0 (h', e)).0, pending_kept joined.pairs p),
      λ (h, p).
          let (h', e) = (joined.keeps ρ).1 (h, tt) in
          (r.keeps ρ).1 (h', (e, pending_kept (λ k. sym (joined.pairs k)) p)),
    )

    pub solved : {u : Unit {0}} → left ≡ 0 → Outcome before after (AllEqual before i j pending) (Ok u)
    solved none =
        record {
          same_length = lengths;
          says = record { sound = joined.sound; keeps = λ ρ. (λ h. ((done ρ).0 h).0, λ h. (done ρ).1 (h, record { at = λ k below. absurd (omega arith) })) };
        }

    pub newest_inside : left ≢ 0 → left - 1 < cells_in after
    newest_inside some =
        let few = r.few in
        let bound = links_few r.sound (omega (arith, r.a_inside)) in
        rw meeting.same_length (omega arith)

    module _ {x : Pair} (some : left ≢ 0) (x_is : x ≡ pair_at after (left - 1)) where
      pub next_pair : Running before i j pending after x.left x.right (left - 1)
      next_pair =
          let few = r.few in
          let more = links_kept in
          let inside : PairsInside after left = pairs_inside_kept joined.pairs meeting.same_length r.pairs_inside in
          let newest : (x.left < cells_in after) × (x.right < cells_in after) = subst (λ (y : Pair). (y.left < cells_in after) × (y.right < cells_in after)) (sym x_is) (inside.at (left - 1) (omega arith)) in
          record {
            same_length = lengths;
            sound = joined.sound;
            a_inside = newest.0;
            b_inside = newest.1;
            pairs_inside = record { at = λ k below. inside.at k (omega arith) };
            few = omega arith;
            keeps = λ ρ. (
              λ h. let (h', p) = (done ρ).0 h in (h', (pending_newest some x_is).0 p),
              λ (h, p). (done ρ).1 (h, (pending_newest some x_is).1 p),
            );
          }

      pub next_pair_less : work after (left - 1) < work mem left
      next_pair_less =
          let more = links_kept in
          rw meeting.same_length (omega arith)

  module _ {parts : Parts} (told : met ≡ Ok (Some parts)) where
    m : Meeting mem after a b (Ok (Some parts))
    m = meeting_is meeting told

    pub room_for_pair : left < cells_in after
    room_for_pair =
        let few = r.few in
        let more = m.says.1 in
        let inside : 0 < cells_in after = omega (arith, m.says.2.0) in
        let bound = links_few m.says.0.sound inside in
        omega arith

    pub few_pairs : left < 4096
    few_pairs = omega (arith, room_for_pair, m.says.0.sound.small)

    module _ {pushed : List ℕ} (p : PairPut after pushed left parts.right) where
      pairs_below : (k : ℕ) → k < left → pair_at pushed k ≡ pair_at mem k
      pairs_below k below = p.others k (omega arith) ∙ m.says.0.pairs k

      cells_same : cells_in pushed ≡ cells_in mem
      cells_same = rw (p.same_length, m.same_length) refl

      links_counted : links_in pushed ≡ suc (links_in mem)
      unfolding links_in
      links_counted =
          rw p.same_length (count_same (is_link_in pushed) (is_link_in after) (λ k. ap (λ w. eqb (tag (cell_in w)) 1) (p.cells k)) (cells_in after)) ∙ m.says.1

      pending_more : {ρ : Subst} → (Pending ρ mem left × (ρ parts.right.left ≡ ρ parts.right.right)) ↔ Pending ρ pushed (left + 1)
      pending_more {ρ} = (
        λ (h, e). record { at = λ k below. go h e k (ℕ_discrete k left) below },
        λ h. (
          record { at = λ k below. subst (λ (x : Pair). ρ x.left ≡ ρ x.right) (pairs_below k below) (h.at k (omega arith)) },
          subst (λ (x : Pair). ρ x.left ≡ ρ x.right) p.there (h.at left (omega arith)),
        ),
      )
        where
          go : Pending ρ mem left → ρ parts.right.left ≡ ρ parts.right.right → (k : ℕ) → Dec (k ≡ left) → k < left + 1 → ρ (pair_at pushed k).left ≡ ρ (pair_at pushed k).right
          go h e k (yes is) below = rw is (subst (λ (x : Pair). ρ x.left ≡ ρ x.right) (sym p.there) e)
          go h e k (no not) below =
              let old : k < left = omega arith in
              subst (λ (x : Pair). ρ x.left ≡ ρ x.right) (sym (pairs_below k old)) (h.at k old)

      all_inside : PairsInside pushed (left + 1)
      all_inside = record { at = λ k below. go k (ℕ_discrete k left) below }
        where
          go : (k : ℕ) → Dec (k ≡ left) → k < left + 1 → ((pair_at pushed k).left < cells_in pushed) × ((pair_at pushed k).right < cells_in pushed)
          go k (yes is) below =
              rw is (subst (λ (x : Pair). (x.left < cells_in pushed) × (x.right < cells_in pushed)) (sym p.there) (rw p.same_length (m.says.2.2, m.says.2.3)))
          go k (no not) below =
              let old : k < left = omega arith in
              subst (λ (x : Pair). (x.left < cells_in pushed) × (x.right < cells_in pushed)) (sym (pairs_below k old)) (rw cells_same (r.pairs_inside.at k old))

      pub parts_first : Running before i j pending pushed parts.left.left parts.left.right (left + 1)
      parts_first =
          let few = r.few in
          let counted = links_counted in
          record {
            same_length = p.same_length ∙ lengths;
            sound = sound_beside m.says.0.sound p;
            a_inside = rw p.same_length m.says.2.0;
            b_inside = rw p.same_length m.says.2.1;
            pairs_inside = all_inside;
            few = omega arith;
            keeps = λ ρ. (
              λ h.
                  let (h', (e, q)) = (r.keeps ρ).0 h in
                  let (h'', (el, er)) = (m.says.0.keeps ρ).0 (h', e) in
                  (rw (store_beside p) h'', (el, pending_more.0 (q, er))),
              λ (h, (el, q)).
                  let (q', er) = pending_more.1 q in
                  let (h', e) = (m.says.0.keeps ρ).1 (rw (store_beside p) at h, (el, er)) in
                  (r.keeps ρ).1 (h', (e, q')),
            );
          }

      pub parts_less : work pushed (left + 1) < work mem left
      parts_less =
          let counted = links_counted in
          let more = m.says.1 in
          let same = cells_same in
          let bound = links_few m.says.0.sound (omega (arith, m.says.2.0)) in
          omega arith
