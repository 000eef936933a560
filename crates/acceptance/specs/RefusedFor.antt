-- The table of the check's refusals: each code exactly in its case, with its place, in this order.
use Rattle.std.specs.Prelude.{ℕ, ◌<◌, ◌≡◌, Bool, true, false, not, List, length}
use Rattle.table.specs.Node.{node_at, count_of}
use Rattle.acceptance.specs.Refusals.{wrong_count, fits, misplaced, unbound}

-- A test finds node k of the n nodes, and none before it.
pub record Smallest (bad : ℕ → Bool) (n k : ℕ) : Type 0 where
  pub inside : k < n
  pub found : bad k ≡ true
  pub first : (j : ℕ) → j < k → bad j ≡ false

-- It finds none of the n nodes.
pub record FindsNone (bad : ℕ → Bool) (n : ℕ) : Type 0 where
  pub passed : (k : ℕ) → k < n → bad k ≡ false

module _ (words : List ℕ) where
  -- An unknown kind, or a field outside its rule.
  abbrev pub breaks_rule : ℕ → Bool
  breaks_rule k = not (fits words (count_of words) k)

  -- Not a child exactly once.
  abbrev pub is_misplaced : ℕ → Bool
  is_misplaced = misplaced (node_at words) (count_of words)

  -- A name without a binder.
  abbrev pub is_unbound : ℕ → Bool
  is_unbound = unbound (node_at words)

  -- `RefusedFor words code place`: that code, at that place, is due to the table.
  pub data RefusedFor : ℕ → ℕ → Type 0 where
    for_its_count : wrong_count (length words) ≡ true → RefusedFor 1 0
    for_a_rule : {k : ℕ} → wrong_count (length words) ≡ false → Smallest breaks_rule (count_of words) k → RefusedFor 2 k
    for_a_parent : {k : ℕ} → wrong_count (length words) ≡ false → FindsNone breaks_rule (count_of words) → Smallest is_misplaced (count_of words) k → RefusedFor 3 k
    for_a_name : {k : ℕ} → wrong_count (length words) ≡ false → FindsNone breaks_rule (count_of words) → FindsNone is_misplaced (count_of words) →
        Smallest is_unbound (count_of words) k → RefusedFor 4 k
