-- The words of a cell's type, written part by part.
use Prim.Native.Nat.{ℕ, suc, ◌+◌, ◌-◌, ◌≤◌, ◌<◌}
use Rattle.std.specs.Prelude.{◌≡◌, true, false, ◌≢◌, take, set, Some, None}
use Rattle.std.proofs.Math.Path.{refl, ap}
use Rattle.std.proofs.Common.{sym, ◌∙◌, subst, add-zero, zero-add, length-append, ne_eqb}
use mathlib.Core.List.{List, [], ◌∷◌, ◌++◌, append-nil}
use Rattle.std.proofs.Math.Decide.{ℕ_discrete}
use native.Mathlib.Omega.{arith}
use Rattle.std.proofs.Math.ListN.{length, drop, length-set}
use Rattle.std.proofs.lemmas.List.Edits.{sets, sets-eq}
use Rattle.std.proofs.Math.Seq.{drop-length, length-take-le}
use Rattle.language.specs.Ty.{Ty, ◌⇒◌, var}
use Rattle.language.specs.Unification.{size}
use Rattle.language.specs.WrittenForm.{is_among, appearing, spell, words_of}
use Rattle.language.proofs.Count.{count, count_bound, count_changed, none_counted}
use Rattle.cells.specs.Interface.{Unnumbered, TypeWritten, fits, over, CellWritten}
use Rattle.cells.specs.Cells.{Ev}
use Rattle.cells.specs.Grounded.{ev_at}
use Rattle.cells.specs.Layout.{cell_at, pair_at, cells_in, store_of}
use Rattle.cells.specs.StoreLaws.{parts_inside, store_beside, sound_beside, says}
use Rattle.cells.specs.Writing.{Root, Measured, number_in, Numbers, has_number, Ready, Kept, words_after, LeafCell, OneWord, LeafSpelled, WordsPut, Wrote}
use Rattle.cells.specs.Spelling.{length-spell, size_positive, number_other, appearing_new, number_new, words_new, appearing_old, words_old, words_arrow}
use Rattle.cells.specs.RootTypes.{parts, LeafType, is_variable, is_unit, is_bool, is_int, leaf_type}
use Rattle.cells.specs.Puts.{PairPut}
use Rattle.cells.specs.declared.TypeCell.{TypeCell}
use Rattle.cells.specs.declared.TypeCell.TheVariants.{Free, Link, UnitType, BoolType, IntType, Arrow}
use Rattle.cells.specs.declared.memory.Pair.{Pair}
use Rattle.cells.specs.declared.write.Rest.{Rest}
use Rattle.cells.specs.declared.write.Word.{Word}

-- ---- Words in a row

put_twice : (out : List ℕ) (at : ℕ) (vs ws : List ℕ) → sets (sets out at vs) (at + length vs) ws ≡ sets out at (vs ++ ws)
put_twice out at [] ws = rw add-zero
put_twice out at (v ∷ vs) ws =
    let further : at + suc (length vs) ≡ suc at + length vs = omega arith in
    rw further (put_twice (set out at v) (suc at) vs ws)

arrow_put : (out : List ℕ) (at : ℕ) (ws₁ ws₂ : List ℕ) {at₁ at₂ : ℕ} {out₂ out₃ : List ℕ} → at₁ ≡ suc at → at₂ ≡ suc at + length ws₁ →
    out₂ ≡ sets (set out at 4) at₁ ws₁ → out₃ ≡ sets out₂ at₂ ws₂ → out₃ ≡ sets out at (4 ∷ ws₁ ++ ws₂)
arrow_put out at ws₁ ws₂ next₁ next₂ put₁ put₂ = put₂ ∙ rw (put₁, next₁, next₂) (put_twice (set out at 4) (suc at) ws₁ ws₂)

-- ---- The word of a leaf

pub few_numbered : {cells : List ℕ} {numbered : ℕ} → Ready cells numbered → numbered ≤ 4096
few_numbered {cells} ready = omega (arith, count_bound (has_number cells) (cells_in cells), ready.counted, ready.sound.small)

nothing_written : {cells : List ℕ} {numbered : ℕ} → Ready cells numbered → Kept cells cells numbered
nothing_written ready = record { ready = ready; same_length = refl; same_store = refl }

-- The word of a base type.
abbrev pub BaseWord : TypeCell → ℕ → Type 0
BaseWord UnitType w = w ≡ 1
BaseWord BoolType w = w ≡ 2
BaseWord IntType w = w ≡ 3
BaseWord Free w = ⊥
BaseWord (Link j) w = ⊥
BaseWord (Arrow l r) w = ⊥

base_word : {r w : ℕ} {c : TypeCell} {τ : Ty} (seen : List ℕ) → BaseWord c w → LeafType r c τ → (words_after seen τ ≡ w ∷ []) × (appearing seen τ ≡ seen)
unfolding spell appearing
base_word seen h is_variable = absurd h
base_word seen h is_unit = rw h (refl, refl)
base_word seen h is_bool = rw h (refl, refl)
base_word seen h is_int = rw h (refl, refl)

pub base_spelled : {cells : List ℕ} {numbered r w : ℕ} {x : TypeCell} → Ready cells numbered → LeafCell cells r → x ≡ cell_at cells r → BaseWord x w →
    LeafSpelled cells numbered r cells (record { word = w; numbered = numbered })
base_spelled ready leaf e base = record {
  kept = nothing_written ready;
  spelled = λ seen τ numbers d.
      let (is, same) = base_word seen base (leaf_type e leaf d) in
      record { is = is; numbers = rw same numbers };
}

module _ {cells : List ℕ} {numbered r : ℕ} (ready : Ready cells numbered) (free : cell_at cells r ≡ Free) where
  variable_type : {τ : Ty} → Ev (store_of cells) r τ → τ ≡ var r
  variable_type d = ev_at (says cells r refl free) d

  pub old_spelled : (pair_at cells r).right ≢ 0 → LeafSpelled cells numbered r cells (record { word = (pair_at cells r).right + 15; numbered = numbered })
  old_spelled has = record { kept = nothing_written ready; spelled = λ seen τ numbers d. rw (variable_type d) (one seen numbers) }
    where
      one : (seen : List ℕ) → Numbers cells numbered seen → OneWord seen (var r) cells (record { word = (pair_at cells r).right + 15; numbered = numbered })
      one seen numbers =
          let old : number_in seen r ≡ suc ((pair_at cells r).right - 1) = sym (numbers.beside r) ∙ omega arith in
          let word : 16 + ((pair_at cells r).right - 1) ≡ (pair_at cells r).right + 15 = omega arith in
          record { is = words_old seen r old ∙ rw word refl; numbers = rw (appearing_old seen r old) numbers }

  module _ {after : List ℕ} {left : ℕ} (inside : r < cells_in cells) (none : (pair_at cells r).right ≡ 0) (put : PairPut cells after r (record { left = left; right = numbered + 1 })) where
    given : (pair_at after r).right ≡ numbered + 1
    given = ap (λ (p : Pair). p.right) put.there

    other : (j : ℕ) → j ≢ r → (pair_at after j).right ≡ (pair_at cells j).right
    other j n = ap (λ (p : Pair). p.right) (put.others j n)

    one_more : numbered + 1 ≡ count (has_number after) (cells_in cells)
    one_more =
        let is_new : has_number after r ≡ true = rw (given, ne_eqb (numbered + 1) 0 (omega arith)) in
        let was_none : has_number cells r ≡ false = rw none refl in
        let changed = count_changed (has_number cells) (has_number after) r (λ j n. rw (other j n) refl) (cells_in cells) inside in
        omega (arith, rw (is_new, was_none) at changed, ready.counted)

    new_ready : Ready after (numbered + 1)
    new_ready = record {
      sound = sound_beside ready.sound put;
      counted = rw put.same_length one_more;
      small = λ j. go j (ℕ_discrete j r);
    }
      where
        go : (j : ℕ) → Dec (j ≡ r) → (pair_at after j).right ≤ numbered + 1
        go j (yes e) = rw (e, given) (omega arith)
        go j (no n) = rw (other j n) (omega (arith, ready.small j))

    new_numbers : {seen : List ℕ} → Numbers cells numbered seen → Numbers after (numbered + 1) (seen ++ r ∷ [])
    new_numbers {seen} numbers = record { beside = λ j. go j (ℕ_discrete j r); as_many = length-append seen (r ∷ []) ∙ rw numbers.as_many refl }
      where
        go : (j : ℕ) → Dec (j ≡ r) → (pair_at after j).right ≡ number_in (seen ++ r ∷ []) j
        go j (yes e) = rw (e, given, number_new seen r (sym (numbers.beside r) ∙ none), numbers.as_many) (omega arith)
        go j (no n) = other j n ∙ numbers.beside j ∙ sym (number_other seen n)

    pub new_spelled : LeafSpelled cells numbered r after (record { word = numbered + 16; numbered = numbered + 1 })
    new_spelled = record {
      kept = record { ready = new_ready; same_length = put.same_length; same_store = store_beside put };
      spelled = λ seen τ numbers d. rw (variable_type d) (one seen numbers);
    }
      where
        one : (seen : List ℕ) → Numbers cells numbered seen → OneWord seen (var r) after (record { word = numbered + 16; numbered = numbered + 1 })
        one seen numbers =
            let new : number_in seen r ≡ 0 = sym (numbers.beside r) ∙ none in
            let word : 16 + length seen ≡ numbered + 16 = omega (arith, numbers.as_many) in
            record { is = words_new seen r new ∙ rw word refl; numbers = rw (appearing_new seen r new) (new_numbers numbers) }

-- ---- Writing

pub wrote_none : {cells out : List ℕ} {i : ℕ} {rest : Rest} → Ready cells rest.numbered → rest.left ≡ 0 → Wrote cells i out rest cells out rest
wrote_none ready none = record {
  kept = nothing_written ready;
  no_more = omega arith;
  same_length = refl;
  written = λ seen τ numbers d fits. absurd (omega (arith, size_positive τ));
}

pub leaf_wrote : {cells cells' : List ℕ} (out : List ℕ) {r : ℕ} {rest : Rest} {w : Word} → rest.left ≢ 0 → LeafSpelled cells rest.numbered r cells' w →
    Wrote cells r out rest cells' (set out (length out - rest.left) w.word) (record { left = rest.left - 1; numbered = w.numbered })
leaf_wrote out {rest = rest} some leaf = record {
  kept = leaf.kept;
  no_more = omega arith;
  same_length = length-set out _ _;
  written = λ seen τ numbers d fits.
      let one = leaf.spelled seen τ numbers d in
      let size_one : size τ ≡ 1 = sym (length-spell _ τ) ∙ ap length one.is in
      record { taken = omega arith; numbers = one.numbers; put = rw one.is refl };
}

-- The words of a cell are its root's.
pub root_wrote : {cells cells' out out' : List ℕ} {i r : ℕ} {rest rest' : Rest} → Root cells i r → Wrote cells r out rest cells' out' rest' → Wrote cells i out rest cells' out' rest'
root_wrote root w = record { kept = w.kept; no_more = w.no_more; same_length = w.same_length; written = λ seen τ numbers d. w.written seen τ numbers (root.same τ d) }

-- An arrow's own word is the first.
abbrev after_arrow : List ℕ → Rest → List ℕ
after_arrow out rest = set out (length out - rest.left) 4

abbrev rest_of_arrow : Rest → Rest
rest_of_arrow rest = record { left = rest.left - 1; numbered = rest.numbered }

module _ {cells : List ℕ} {i r : ℕ} {rest : Rest} (some : rest.left ≢ 0) (root : Root cells i r) where
  module _ {x : TypeCell} {p q : ℕ} {cells₁ cells₂ out₂ out₃ : List ℕ} {rest₁ rest₂ : Rest} (out : List ℕ) (fits : rest.left ≤ length out) (at_root : x ≡ cell_at cells r) (arrow : x ≡ Arrow p q)
      (wrote₁ : Wrote cells p (after_arrow out rest) (rest_of_arrow rest) cells₁ out₂ rest₁)
      (wrote₂ : Wrote cells₁ q out₂ rest₁ cells₂ out₃ rest₂) where
    out_length : length out₂ ≡ length out
    out_length = wrote₁.same_length ∙ length-set out _ _

    parts_put : (seen : List ℕ) (t₁ t₂ : Ty) → Numbers cells rest.numbered seen → Ev (store_of cells) p t₁ → Ev (store_of cells) q t₂ → size (t₁ ⇒ t₂) ≤ rest.left →
        WordsPut seen (t₁ ⇒ t₂) rest.left out out₃ cells₂ rest₂
    unfolding size appearing
    parts_put seen t₁ t₂ numbers d₁ d₂ enough =
        let put₁ = wrote₁.written seen t₁ numbers d₁ (omega arith) in
        let taken₁ = put₁.taken in
        let put₂ = wrote₂.written (appearing seen t₁) t₂ put₁.numbers (subst (λ σ. Ev σ q t₂) (sym wrote₁.kept.same_store) d₂) (omega arith) in
        let next₁ : length (after_arrow out rest) - (rest.left - 1) ≡ suc (length out - rest.left) = rw length-set (omega arith) in
        let next₂ : length out₂ - rest₁.left ≡ suc (length out - rest.left) + length (words_after seen t₁) = rw (out_length, length-spell) (omega arith) in
        record {
          taken = omega (arith, put₂.taken);
          numbers = put₂.numbers;
          put = arrow_put out (length out - rest.left) (words_after seen t₁) (words_after (appearing seen t₁) t₂) next₁ next₂ put₁.put put₂.put ∙ ap (sets out (length out - rest.left)) (sym (words_arrow seen t₁ t₂));
        }

    wrote_arrow : Wrote cells i out rest cells₂ out₃ rest₂
    wrote_arrow = record {
      kept = record {
        ready = wrote₂.kept.ready;
        same_length = wrote₂.kept.same_length ∙ wrote₁.kept.same_length;
        same_store = wrote₂.kept.same_store ∙ wrote₁.kept.same_store;
      };
      no_more = omega (arith, wrote₁.no_more, wrote₂.no_more);
      same_length = wrote₂.same_length ∙ out_length;
      written = λ seen τ numbers d enough.
          let (t₁, t₂, d₁, d₂, is) = parts root at_root arrow τ d in
          rw is (parts_put seen t₁ t₂ numbers d₁ d₂ (rw is at enough));
    }

-- ---- From part to part

-- To write the current cell's type next is to write cell i₀'s, and there is room for no more words than then.
pub record WritesOn (cells₀ : List ℕ) (i₀ : ℕ) (out₀ : List ℕ) (rest₀ : Rest) (cells : List ℕ) (i : ℕ) (out : List ℕ) (rest : Rest) : Type 0 where
  pub ready : Ready cells rest.numbered
  pub inside : i < cells_in cells
  pub no_more : rest.left ≤ rest₀.left
  pub same_length : length out ≡ length out₀
  pub fits : rest.left ≤ length out
  pub goes_on : {cells' out' : List ℕ} {rest' : Rest} → Wrote cells i out rest cells' out' rest' → Wrote cells₀ i₀ out₀ rest₀ cells' out' rest'

pub writes_at_first : {cells out : List ℕ} {i : ℕ} {rest : Rest} → Ready cells rest.numbered → i < cells_in cells → rest.left ≤ length out → WritesOn cells i out rest cells i out rest
writes_at_first ready inside enough = record { ready = ready; inside = inside; no_more = omega arith; same_length = refl; fits = enough; goes_on = λ w. w }

-- At an arrow the left part is written first, and then the right part is next.
module _ {cells₀ out₀ cells out : List ℕ} {i₀ i r p q : ℕ} {rest₀ rest : Rest} {x : TypeCell} (w : WritesOn cells₀ i₀ out₀ rest₀ cells i out rest)
    (some : rest.left ≢ 0) (root : Root cells i r) (at_root : x ≡ cell_at cells r) (arrow : x ≡ Arrow p q) where
  pub left_part_ready : Ready cells rest.numbered × (p < cells_in cells) × (rest.left - 1 ≤ length (after_arrow out rest))
  left_part_ready = (w.ready, (parts_inside w.ready.sound r at_root arrow).0, simp length-set (omega (arith, w.fits)))

  pub right_part_next : {cells₁ out₁ : List ℕ} {rest₁ : Rest} → Wrote cells p (after_arrow out rest) (rest_of_arrow rest) cells₁ out₁ rest₁ →
      WritesOn cells₀ i₀ out₀ rest₀ cells₁ q out₁ rest₁
  right_part_next {out₁ = out₁} wrote = record {
    ready = wrote.kept.ready;
    inside = rw wrote.kept.same_length (parts_inside w.ready.sound r at_root arrow).1;
    no_more = omega (arith, wrote.no_more, w.no_more);
    same_length = same ∙ w.same_length;
    fits = omega (arith, wrote.no_more, same, w.fits);
    goes_on = λ next. w.goes_on (wrote_arrow some root out w.fits at_root arrow wrote next);
  }
    where
      same : length out₁ ≡ length out
      same = wrote.same_length ∙ length-set out _ _

-- ---- A whole type

all_put : (room words : List ℕ) → length words ≡ length room → sets room 0 words ≡ words
all_put room words same = sets-eq words room 0 (omega arith) ∙ rw (zero-add, same, drop-length) (append-nil words)

module _ {cells : List ℕ} (unnumbered : Unnumbered cells) where
  pub ready_at_first : Ready cells 0
  ready_at_first = record {
    sound = unnumbered.sound;
    counted = sym (none_counted (has_number cells) (λ j. rw (unnumbered.none j) refl) (cells_in cells));
    small = λ j. omega (arith, unnumbered.none j);
  }

  none_seen : Numbers cells 0 []
  unfolding number_in is_among
  none_seen = record { beside = unnumbered.none; as_many = refl }

  pub all_written : (out : List ℕ) {i left count : ℕ} {cells' part : List ℕ} {rest : Rest} → count + left ≡ length out →
      Measured cells i (length out) (Some left) → Wrote cells i (take count out) (record { left = count; numbered = 0 }) cells' part rest →
      CellWritten cells i out (part ++ drop count out) (Some count)
  unfolding words_of
  all_written out {i} {left} {count} {part = part} split measured wrote = record { is = written }
    where
      written : (τ : Ty) → Ev (store_of cells) i τ → TypeWritten (words_of τ) out (part ++ drop count out) (Some count)
      written τ d =
          let taken = measured.takes τ d in
          let as_long : length (words_of τ) ≡ count = length-spell _ τ ∙ omega arith in
          let room : length (take count out) ≡ count = length-take-le count out (omega arith) in
          let start : length (take count out) - count ≡ 0 = omega arith in
          let put = (wrote.written [] τ none_seen d (omega arith)).put in
          let all : part ≡ words_of τ = put ∙ rw start (all_put (take count out) (words_of τ) (omega arith)) in
          fits (omega arith) (rw as_long refl) (rw (all, as_long) refl)

pub none_written : (out : List ℕ) {cells : List ℕ} {i : ℕ} → Measured cells i (length out) None → CellWritten cells i out out None
unfolding words_of
none_written out measured = record { is = λ τ d. over (rw length-spell (omega (arith, measured.takes τ d))) refl refl }
