-- Marking cells: what a cell leans on, what one mark changes, and what is known when a pass marks none and when no cell is left.
use Rattle.std.specs.Prelude.{ℕ, ◌+◌, ◌-◌, ◌*◌, ◌≤◌, ◌<◌, ◌≡◌, refl, Bool, true, false, ◌≢◌, ◌⊎◌, List, length, get_or}
use Rattle.std.proofs.Common.{sym, ◌∙◌, ap, subst, inl, inr, ⊎_elim, arith}
use Rattle.std.proofs.Math.Decide.{ℕ_discrete, dec_lt}
use Rattle.std.proofs.Math.ListN.{get_or-eq_default}
use Rattle.language.specs.Ty.{unit, bool, int, ◌⇒◌, var, Subst}
use Rattle.language.proofs.Count.{count, count_changed, count_bound, count_all, count_none, count_some}
use Rattle.cells.specs.Grounding.{MarkingAt, Unmarked, no_mark, unmarked, Waits, Evaluates, Marking, LeansOrEvaluates, Settled, UnmarkedBelow, Progress}
use Rattle.cells.specs.Interface.{GroundedOrNone, GroundTested}
use Rattle.cells.specs.Cells.{Sat, ev_free, ev_link, ev_unit, ev_bool, ev_int, ev_arrow}
use Rattle.cells.specs.CellSteps.{tag}
use Rattle.cells.specs.Grounded.{ungrounded_has_none, Leans, on_link, on_left, on_right}
use Rattle.cells.specs.Layout.{cell_at, pair_at, store_of, cells_in, Sound, SameCells, no_pair}
use Rattle.cells.specs.StoreLaws.{link_falls, same_cells, same_then, same_beside, same_store, sound_beside, says, parts_inside, links_fall}
use Rattle.cells.specs.Puts.{PairPut}
use Rattle.cells.specs.declared.TypeCell.{TypeCell}
use Rattle.cells.specs.declared.TypeCell.TheVariants.{Free, Link, UnitType, BoolType, IntType, Arrow}

-- ---- What a cell leans on

module _ {mem : List ℕ} {i : ℕ} (at : MarkingAt mem i) {x : TypeCell} (e : x ≡ cell_at mem i) where
  abbrev m : Marking mem
  m = at.marking

  pub link_inside : {j : ℕ} → x ≡ Link j → j < cells_in mem
  link_inside t = omega (arith, link_falls m.ready.sound i e t, at.inside)

  pub arrow_inside : {l r : ℕ} → x ≡ Arrow l r → (l < cells_in mem) × (r < cells_in mem)
  arrow_inside = parts_inside m.ready.sound i e

  pub link_leans : {j : ℕ} → x ≡ Link j → {waits : Bool} → waits ≡ unmarked mem j → LeansOrEvaluates mem i waits
  link_leans t {waits = true} w = on_link (says mem i e t) (link_inside t, sym w)
  link_leans {j} t {waits = false} w =
      let (τ, d) = m.evaluates j (sym w) in
      (τ, ev_link (says mem i e t) d)

  pub arrow_leans_left : {l r : ℕ} → x ≡ Arrow l r → unmarked mem l ≡ true → LeansOrEvaluates mem i true
  arrow_leans_left t w = on_left (says mem i e t) ((arrow_inside t).0, w)

  pub arrow_leans_right : {l r : ℕ} → x ≡ Arrow l r → unmarked mem l ≡ false → {waits : Bool} → waits ≡ unmarked mem r → LeansOrEvaluates mem i waits
  arrow_leans_right t marked {waits = true} w = on_right (says mem i e t) ((arrow_inside t).1, sym w)
  arrow_leans_right {l} {r} t marked {waits = false} w =
      let (τ₁, d₁) = m.evaluates l marked in
      let (τ₂, d₂) = m.evaluates r (sym w) in
      (τ₁ ⇒ τ₂, ev_arrow (says mem i e t) d₁ d₂)

  pub other_evaluates : tag x ≢ 1 → tag x ≢ 5 → LeansOrEvaluates mem i false
  other_evaluates no_link no_arrow = go x refl no_link no_arrow
    where
      go : (c : TypeCell) → x ≡ c → tag c ≢ 1 → tag c ≢ 5 → Evaluates mem i
      go Free is n n' = (var i, ev_free (says mem i e is))
      go (Link j) is n n' = absurd (n refl)
      go UnitType is n n' = (unit, ev_unit (says mem i e is))
      go BoolType is n n' = (bool, ev_bool (says mem i e is))
      go IntType is n n' = (int, ev_int (says mem i e is))
      go (Arrow l r) is n n' = absurd (n' refl)

-- ---- Progress

never : true ≡ false → ⊥
never e = let z : ◌≡◌ {A = ℕ} 0 1 = cc in omega arith

module _ {D : ℕ → Type 0} where
  pub progress_none : {mem : List ℕ} → Marking mem → Settled mem D → Progress D mem mem 0
  progress_none m settled = record { same = same_cells; marking = m; counted = omega arith; idle = λ e. (refl, settled) }

  pub progress_within : {E : ℕ → Type 0} {before after : List ℕ} {new : ℕ} → ((i : ℕ) → E i → D i) → Progress D before after new → Progress E before after new
  progress_within into p =
      record { same = p.same; marking = p.marking; counted = p.counted; idle = λ e. ((p.idle e).0, λ i d. (p.idle e).1 i (into i d)) }

  pub progress_then : {E : ℕ → Type 0} {a b c : List ℕ} {new more : ℕ} → Progress D a b new → Progress E b c more → Progress (λ i. D i ⊎ E i) a c (new + more)
  progress_then {E} {a} {b} {c} {new} {more} p q =
      record { same = same_then p.same q.same; marking = q.marking; counted = both; idle = λ e. none (p.idle (omega arith)) (q.idle (omega arith)) }
    where
      both : (new + more) + count (unmarked c) (cells_in a) ≡ count (unmarked a) (cells_in a)
      both =
          let first = p.counted in
          let then = rw p.same.same_length at q.counted in
          omega arith

      none : (b ≡ a) × Settled a D → (c ≡ b) × Settled b E → (c ≡ a) × Settled a (λ i. D i ⊎ E i)
      none (e, s) (e', s') = (e' ∙ e, λ i. ⊎_elim (s i) (subst (λ mem. Settled mem E) e s' i))

  pub progress_bounded : {before after : List ℕ} {new : ℕ} → Progress D before after new → new ≤ cells_in before
  progress_bounded {before} p =
      let all = count_bound (unmarked before) (cells_in before) in
      omega (arith, p.counted)

-- A visit that marks nothing.
module _ {mem : List ℕ} {i : ℕ} (at : MarkingAt mem i) where
  pub visit_marked : unmarked mem i ≡ false → Progress (λ j. j ≡ i) mem mem 0
  visit_marked marked = progress_none at.marking (λ j e waits. absurd (never (sym waits ∙ rw e marked)))

  pub visit_leaning : LeansOrEvaluates mem i true → Progress (λ j. j ≡ i) mem mem 0
  visit_leaning leans = progress_none at.marking (λ j e waits. rw e leans)

-- Two visits more, the first of cell i.
pub pass_on : {E : ℕ → Type 0} {a b c d : List ℕ} {i new up down : ℕ} → Progress (λ j. j < i) a b new → Progress (λ j. j ≡ i) b c up → Progress E c d down → Progress (λ j. j < i + 1) a d (new + (up + down))
pass_on {E} {i} p q r = progress_within (λ j h. here j h (ℕ_discrete j i)) (progress_then p (progress_then q r))
  where
    here : (j : ℕ) → j < i + 1 → Dec (j ≡ i) → (j < i) ⊎ ((j ≡ i) ⊎ E j)
    here j h (yes e) = inr (inl e)
    here j h (no n) = inl (omega arith)

-- One mark.
module _ {before after : List ℕ} {i : ℕ} (at : MarkingAt before i) (waited : unmarked before i ≡ true) (ev : Evaluates before i)
    (put : PairPut before after i (record { left = 1; right = 0 })) where
  other_marks_kept : (j : ℕ) → j ≢ i → unmarked after j ≡ unmarked before j
  other_marks_kept j n = ap no_mark (put.others j n)

  marked_marking : Marking after
  marked_marking = record { ready = record { sound = sound_beside at.marking.ready.sound put; none = λ j. none j (ℕ_discrete j i) }; evaluates = λ j. evaluated j (ℕ_discrete j i) }
    where
      none : (j : ℕ) → Dec (j ≡ i) → (pair_at after j).right ≡ 0
      none j (yes e) = rw e (ap (λ q. q.right) put.there)
      none j (no n) = ap (λ q. q.right) (put.others j n) ∙ at.marking.ready.none j

      evaluated : (j : ℕ) → Dec (j ≡ i) → unmarked after j ≡ false → Evaluates after j
      evaluated j (yes e) marked = rw (e, same_store (same_beside put)) ev
      evaluated j (no n) marked = rw (same_store (same_beside put)) (at.marking.evaluates j (sym (other_marks_kept j n) ∙ marked))

  pub progress_one : {D : ℕ → Type 0} → Progress D before after 1
  progress_one =
      record { same = same_beside put; marking = marked_marking; counted = one; idle = λ e. absurd (omega arith) }
    where
      one : 1 + count (unmarked after) (cells_in before) ≡ count (unmarked before) (cells_in before)
      one =
          let here : unmarked after i ≡ false = ap no_mark put.there in
          let changed = rw (waited, here) at (count_changed (unmarked before) (unmarked after) i other_marks_kept (cells_in before) at.inside) in
          omega arith

-- ---- Clearing

pub unmark_none : {mem : List ℕ} → Sound mem → UnmarkedBelow mem mem 0
unmark_none s = record { same = same_cells; sound = s; clear = λ i h. absurd (omega arith) }

pub unmark_more : {before mem after : List ℕ} {i : ℕ} → UnmarkedBelow before mem i → PairPut mem after i no_pair → UnmarkedBelow before after (i + 1)
unmark_more {after} {i} u put =
    record { same = same_then u.same (same_beside put); sound = sound_beside u.sound put; clear = λ j h. clear j h (ℕ_discrete j i) }
  where
    clear : (j : ℕ) → j < i + 1 → Dec (j ≡ i) → pair_at after j ≡ no_pair
    clear j h (yes e) = rw e put.there
    clear j h (no n) = put.others j n ∙ u.clear j (omega arith)

-- Words past the end read as 0.
past_the_end : (mem : List ℕ) (n : ℕ) → length mem ≡ 5 * n → (k : ℕ) → 5 * n ≤ k → get_or mem k 0 ≡ 0
past_the_end mem n whole k h = get_or-eq_default mem 0 (omega arith)

pub all_unmarked : {before after : List ℕ} {n : ℕ} → length before ≡ 5 * n → UnmarkedBelow before after n → Unmarked after
all_unmarked {after = after} {n} whole u = record { sound = u.sound; clear = λ i. go i (dec_lt i n) }
  where
    go : (i : ℕ) → Dec (i < n) → pair_at after i ≡ no_pair
    go i (yes h) = u.clear i h
    go i (no h) =
        let whole' = u.same.same_length ∙ whole in
        rw (past_the_end after n whole' (5 * i + 3) (omega arith), past_the_end after n whole' (5 * i + 4) (omega arith)) refl

-- ---- Passes

-- So many cells are still unmarked.
pub record Sweeping (before mem : List ℕ) (left : ℕ) : Type 0 where
  pub same : SameCells before mem
  pub marking : Marking mem
  pub counted : count (unmarked mem) (cells_in mem) ≡ left

pub sweep_on : {D : ℕ → Type 0} {before mem after : List ℕ} {left new : ℕ} → Sweeping before mem left → Progress D mem after new → Sweeping before after (left - new)
sweep_on {after} {left} {new} s p = record { same = same_then s.same p.same; marking = p.marking; counted = fewer }
  where
    fewer : count (unmarked after) (cells_in after) ≡ left - new
    fewer =
        let all = s.counted in
        let some = p.counted in
        rw p.same.same_length (omega arith)

module _ {before : List ℕ} (n : ℕ) (whole : length before ≡ 5 * n) where
  pub sweep_starts : Unmarked before → Sweeping before before n
  sweep_starts u = record { same = same_cells; marking = marking; counted = count_all (unmarked before) (cells_in before) (λ i h. none_marked i) ∙ omega arith }
    where
      none_marked : (i : ℕ) → unmarked before i ≡ true
      none_marked i = ap no_mark (u.clear i)

      marking : Marking before
      marking =
          record { ready = record { sound = u.sound; none = λ i. ap (λ q. q.right) (u.clear i) }; evaluates = λ i marked. absurd (never (sym (none_marked i) ∙ marked)) }

  pub sweep_stuck : {mem after : List ℕ} {left new : ℕ} → Sweeping before mem left → 0 < left → Progress (λ i. i < n) mem after new → new ≡ 0 → GroundTested before after false
  sweep_stuck {mem} {after} s some p no_new =
      record { same = same_then s.same p.same; ready = p.marking.ready; says = λ ρ sat. none (subst (Sat ρ) (sym (same_store s.same)) sat) }
    where
      stuck : (i : ℕ) → Waits mem i → Leans (store_of mem) (Waits mem) i
      stuck i (inside, waits) =
          let same_length = s.same.same_length in
          (p.idle no_new).1 i (omega arith) waits

      none : {ρ : Subst} → Sat ρ (store_of mem) → ⊥
      none sat =
          let (i, inside, waits) = count_some (unmarked mem) (cells_in mem) (rw s.counted some) in
          ungrounded_has_none {U = Waits mem} (links_fall s.marking.ready.sound) stuck sat {i = i} (inside, waits)

  pub sweep_done : {mem : List ℕ} {left : ℕ} → Sweeping before mem left → left ≡ 0 → GroundTested before mem true
  sweep_done {mem} s none_left =
      record { same = s.same; ready = s.marking.ready; says = (λ i. (every i).0, record { at = λ i. rw (← (same_store s.same)) (every i).1 }) }
    where
      every : (i : ℕ) → Evaluates mem i
      every i = go (dec_lt i n)
        where
          go : Dec (i < n) → Evaluates mem i
          go (yes h) =
              let same_length = s.same.same_length in
              s.marking.evaluates i (count_none (unmarked mem) (cells_in mem) (s.counted ∙ none_left) i (omega arith))
          go (no h) = (var i, ev_free (says mem i refl (let none = past_the_end mem n (s.same.same_length ∙ whole) (5 * i) (omega arith) in rw none refl)))

-- What was tested after a change of marks was tested before it.
pub tested_since : {before start after : List ℕ} {ok : Bool} → SameCells before start → GroundTested start after ok → GroundTested before after ok
tested_since {ok = ok} same g = record { same = same_then same g.same; ready = g.ready; says = subst (λ σ. GroundedOrNone σ ok) (same_store same) g.says }
