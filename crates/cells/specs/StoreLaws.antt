-- What writes do to the store that the words stand for.
use Rattle.std.specs.Prelude.{ℕ, zero, suc, ◌≤◌, ◌<◌, ◌≡◌, refl, ◌≢◌, List, [], ◌∷◌, get_or}
use Rattle.std.proofs.Common.{sym, ◌∙◌, ap, subst, arith}
use Rattle.std.proofs.Math.Path.{fun_ext}
use Rattle.std.proofs.Math.Decide.{ℕ_discrete}
use Rattle.cells.specs.Layout.{words_at, cell_in, as_words, cell_at, MaySay, Allowed, store_of, cells_in, Sound, SameCells}
use Rattle.cells.specs.Interface.{Sayable}
use Rattle.cells.specs.CellSteps.{tag, Put}
use Rattle.cells.specs.Grounded.{LinksFall}
use Rattle.cells.specs.Puts.{CellPut, PairPut}
use Rattle.cells.specs.declared.TypeCell.{TypeCell}
use Rattle.cells.specs.declared.TypeCell.TheVariants.{Free, Link, UnitType, BoolType, IntType, Arrow}
use Rattle.cells.specs.declared.memory.Pair.{Pair}
use Rattle.cells.specs.declared.memory.Words.{Words}

-- ---- What a cell says

-- A cell that was read, and what it is found to be.
pub says : (mem : List ℕ) (i : ℕ) {x c : TypeCell} → x ≡ cell_at mem i → x ≡ c → store_of mem i ≡ c
unfolding store_of
says mem i e is = sym e ∙ is

pub may_say : {mem : List ℕ} → Sound mem → (i : ℕ) {x c : TypeCell} → x ≡ cell_at mem i → x ≡ c → MaySay (cells_in mem) i c
may_say {mem} s i e is = subst (MaySay (cells_in mem) i) (sym e ∙ is) (s.allowed i).may_say

pub link_falls : {mem : List ℕ} → Sound mem → (i : ℕ) {x : TypeCell} {j : ℕ} → x ≡ cell_at mem i → x ≡ Link j → j < i
link_falls s i e is = may_say s i e is

pub parts_inside : {mem : List ℕ} → Sound mem → (i : ℕ) {x : TypeCell} {l r : ℕ} → x ≡ cell_at mem i → x ≡ Arrow l r → (l < cells_in mem) × (r < cells_in mem)
parts_inside s i e is = may_say s i e is

pub links_fall : {mem : List ℕ} → Sound mem → LinksFall (store_of mem)
unfolding store_of
links_fall s = record { falls = λ {i} {j} e. link_falls s i refl e }

-- ---- Writes of cells

-- What is written is read.
pub cell_back : (c : TypeCell) → cell_in (as_words c) ≡ c
cell_back Free = refl
cell_back (Link j) = refl
cell_back UnitType = refl
cell_back BoolType = refl
cell_back IntType = refl
cell_back (Arrow l r) = refl

words_known : (c : TypeCell) → (as_words c).tag ≤ 5
words_known Free = omega arith
words_known (Link j) = omega arith
words_known UnitType = omega arith
words_known BoolType = omega arith
words_known IntType = omega arith
words_known (Arrow l r) = omega arith

pub words_allowed : {n i : ℕ} (c : TypeCell) → MaySay n i c → Allowed n i (as_words c)
words_allowed {n} {i} c h = record { tag_known = words_known c; may_say = subst (MaySay n i) (sym (cell_back c)) h }

module _ {before after : List ℕ} {i : ℕ} {w : Words} (p : CellPut before after i w) where
  pub cell_there : cell_at after i ≡ cell_in w
  cell_there = ap cell_in p.there

  pub cell_beside : (j : ℕ) → j ≢ i → cell_at after j ≡ cell_at before j
  cell_beside j n = ap cell_in (p.others j n)

  pub store_put : Put (store_of before) (store_of after) i (cell_in w)
  unfolding store_of
  store_put = record { there = cell_there; others = cell_beside }

  pub sound_put : Sound before → Allowed (cells_in before) i w → Sound after
  sound_put s h = record { whole = rw p.same_length s.whole; small = rw p.same_length s.small; allowed = λ j. rw p.same_length (each j (ℕ_discrete j i)) }
    where
      each : (j : ℕ) → Dec (j ≡ i) → Allowed (cells_in before) j (words_at after j)
      each j (yes e) = rw e (subst (Allowed (cells_in before) i) (sym p.there) h)
      each j (no n) = subst (Allowed (cells_in before) j) (sym (p.others j n)) (s.allowed j)

-- What may be said may be written anywhere.
pub sayable_anywhere : (n i : ℕ) (c : TypeCell) → Sayable n c → MaySay n i c
sayable_anywhere n i Free h = absurd h
sayable_anywhere n i (Link j) h = absurd h
sayable_anywhere n i UnitType h = tt
sayable_anywhere n i BoolType h = tt
sayable_anywhere n i IntType h = tt
sayable_anywhere n i (Arrow l r) h = h

-- ---- Writes of pairs

pub same_cells : {mem : List ℕ} → SameCells mem mem
same_cells = record { same_length = refl; cells = λ i. refl }

pub same_then : {a b c : List ℕ} → SameCells a b → SameCells b c → SameCells a c
same_then s t = record { same_length = t.same_length ∙ s.same_length; cells = λ i. t.cells i ∙ s.cells i }

pub same_beside : {before after : List ℕ} {i : ℕ} {q : Pair} → PairPut before after i q → SameCells before after
same_beside p = record { same_length = p.same_length; cells = p.cells }

pub same_store : {before after : List ℕ} → SameCells before after → store_of after ≡ store_of before
unfolding store_of
same_store s = fun_ext (λ i. ap cell_in (s.cells i))

pub sound_same : {before after : List ℕ} → Sound before → SameCells before after → Sound after
sound_same {before} s p = record { whole = rw p.same_length s.whole; small = rw p.same_length s.small; allowed = λ j. rw p.same_length (subst (Allowed (cells_in before) j) (sym (p.cells j)) (s.allowed j)) }

pub store_beside : {before after : List ℕ} {i : ℕ} {q : Pair} → PairPut before after i q → store_of after ≡ store_of before
store_beside p = same_store (same_beside p)

pub sound_beside : {before after : List ℕ} {i : ℕ} {q : Pair} → Sound before → PairPut before after i q → Sound after
sound_beside s p = sound_same s (same_beside p)

-- ---- Tags

-- Words have the tag of the cell that they are.
pub tag_of : (w : Words) → w.tag ≤ 5 → tag (cell_in w) ≡ w.tag
tag_of w = go w.tag
  where
    go : (t : ℕ) → t ≤ 5 → tag (get_or (Free ∷ Link w.a ∷ UnitType ∷ BoolType ∷ IntType ∷ Arrow w.a w.b ∷ []) t Free) ≡ t
    go zero h = refl
    go (suc zero) h = refl
    go (suc (suc zero)) h = refl
    go (suc (suc (suc zero))) h = refl
    go (suc (suc (suc (suc zero)))) h = refl
    go (suc (suc (suc (suc (suc zero))))) h = refl
    go (suc (suc (suc (suc (suc (suc t)))))) h = absurd (omega arith)

pub says_tag : {mem : List ℕ} → Sound mem → (i : ℕ) → tag (store_of mem i) ≡ (words_at mem i).tag
unfolding store_of
says_tag {mem} s i = tag_of (words_at mem i) (s.allowed i).tag_known

-- A base type says no more than its tag.
pub base_says : (c d : Words) → 1 < c.tag → c.tag < 5 → c.tag ≡ d.tag → cell_in c ≡ cell_in d
base_says c d h k e = subst (λ t. cell_in c ≡ get_or (Free ∷ Link d.a ∷ UnitType ∷ BoolType ∷ IntType ∷ Arrow d.a d.b ∷ []) t Free) e (go c.tag h k)
  where
    go : (t : ℕ) → 1 < t → t < 5 →
        get_or (Free ∷ Link c.a ∷ UnitType ∷ BoolType ∷ IntType ∷ Arrow c.a c.b ∷ []) t Free ≡ get_or (Free ∷ Link d.a ∷ UnitType ∷ BoolType ∷ IntType ∷ Arrow d.a d.b ∷ []) t Free
    go zero h k = absurd (omega arith)
    go (suc zero) h k = absurd (omega arith)
    go (suc (suc zero)) h k = refl
    go (suc (suc (suc zero))) h k = refl
    go (suc (suc (suc (suc zero)))) h k = refl
    go (suc (suc (suc (suc (suc t))))) h k = absurd (omega arith)

pub above_one : {t : ℕ} → t ≢ 0 → t ≢ 1 → 1 < t
above_one n m = omega arith
