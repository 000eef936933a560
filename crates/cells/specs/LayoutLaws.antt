-- Cells and pairs written word by word.
use Rattle.std.specs.Prelude.{ℕ, ◌+◌, ◌*◌, ◌<◌, ◌≡◌, refl, ◌≢◌, List, length, set, get_or}
use Rattle.std.proofs.Common.{arith, length-set, get_or-set_same, get_or-set_other}
use Rattle.cells.specs.Layout.{words_at, pair_at, cells_in}
use Rattle.cells.specs.Puts.{CellPut, PairPut}
use Rattle.cells.specs.declared.memory.Pair.{Pair}
use Rattle.cells.specs.declared.memory.Words.{Words}

-- ---- A cell

module _ (mem : List ℕ) (i : ℕ) (w : Words) where
  abbrev with_tag : List ℕ
  with_tag = set mem (5 * i) w.tag

  abbrev with_a : List ℕ
  with_a = set with_tag (5 * i + 1) w.a

  abbrev with_cell : List ℕ
  with_cell = set with_a (5 * i + 2) w.b

  word_kept : (k : ℕ) → k ≢ 5 * i → k ≢ 5 * i + 1 → k ≢ 5 * i + 2 → get_or with_cell k 0 ≡ get_or mem k 0
  word_kept k n₀ n₁ n₂ = simp get_or-set_other

  others_kept : (j : ℕ) → j ≢ i → words_at with_cell j ≡ words_at mem j
  others_kept j n =
      rw (word_kept (5 * j) (omega arith) (omega arith) (omega arith), word_kept (5 * j + 1) (omega arith) (omega arith) (omega arith), word_kept (5 * j + 2) (omega arith) (omega arith) (omega arith)) refl

  pairs_kept : (j : ℕ) → pair_at with_cell j ≡ pair_at mem j
  pairs_kept j = rw (word_kept (5 * j + 3) (omega arith) (omega arith) (omega arith), word_kept (5 * j + 4) (omega arith) (omega arith) (omega arith)) refl

  module _ (inside : i < cells_in mem) where
    words_there : words_at with_cell i ≡ w
    words_there =
        let n₁ : 5 * i ≢ 5 * i + 1 = omega arith in
        let n₂ : 5 * i ≢ 5 * i + 2 = omega arith in
        let n₃ : 5 * i + 1 ≢ 5 * i + 2 = omega arith in
        let tag_fits : 5 * i < length mem = omega arith in
        let a_fits : 5 * i + 1 < length with_tag = simp length-set (omega arith) in
        let b_fits : 5 * i + 2 < length with_a = simp length-set (omega arith) in
        simp (get_or-set_same, get_or-set_other)

    pub cell_put : CellPut mem with_cell i w
    cell_put = record { same_length = simp length-set; there = words_there; others = others_kept; pairs = pairs_kept }

-- ---- A pair

module _ (mem : List ℕ) (i : ℕ) (p : Pair) where
  abbrev with_left : List ℕ
  with_left = set mem (5 * i + 3) p.left

  abbrev with_pair : List ℕ
  with_pair = set with_left (5 * i + 4) p.right

  word_beside_kept : (k : ℕ) → k ≢ 5 * i + 3 → k ≢ 5 * i + 4 → get_or with_pair k 0 ≡ get_or mem k 0
  word_beside_kept k n₃ n₄ = simp get_or-set_other

  cells_kept : (j : ℕ) → words_at with_pair j ≡ words_at mem j
  cells_kept j = rw (word_beside_kept (5 * j) (omega arith) (omega arith), word_beside_kept (5 * j + 1) (omega arith) (omega arith), word_beside_kept (5 * j + 2) (omega arith) (omega arith)) refl

  other_pairs_kept : (j : ℕ) → j ≢ i → pair_at with_pair j ≡ pair_at mem j
  other_pairs_kept j n = rw (word_beside_kept (5 * j + 3) (omega arith) (omega arith), word_beside_kept (5 * j + 4) (omega arith) (omega arith)) refl

  module _ (inside : i < cells_in mem) where
    pair_there : pair_at with_pair i ≡ p
    pair_there =
        let n : 5 * i + 3 ≢ 5 * i + 4 = omega arith in
        let left_fits : 5 * i + 3 < length mem = omega arith in
        let right_fits : 5 * i + 4 < length with_left = simp length-set (omega arith) in
        simp (get_or-set_same, get_or-set_other)

    pub pair_put : PairPut mem with_pair i p
    pair_put = record { same_length = simp length-set; there = pair_there; others = other_pairs_kept; cells = cells_kept }
