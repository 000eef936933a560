-- The solver: each step keeps the satisfying valuations, and together they demand one equation more of them.
use Rattle.std.specs.Prelude.{ℕ, suc, ◌≤◌, ◌<◌, ◌≡◌, Bool, ◌≢◌, ◌↔◌, List, eqb, length, Option, Some, None, Result, Ok, Err}
use Rattle.language.specs.Ty.{Subst}
use Rattle.language.proofs.Count.{count}
use Rattle.cells.specs.Cells.{Sat}
use Rattle.cells.specs.CellSteps.{tag}
use Rattle.cells.specs.Interface.{Sayable}
use Rattle.cells.specs.Layout.{words_at, cell_at, pair_at, store_of, cells_in, Sound}
use Rattle.cells.specs.declared.TypeCell.{TypeCell}
use Rattle.cells.specs.declared.TypeCell.TheVariants.{Arrow}
use Rattle.cells.specs.declared.Clash.{Clash}
use Rattle.cells.specs.declared.memory.Words.{Words}
use Rattle.cells.specs.declared.solve.Parts.{Parts}

-- ---- Roots

abbrev pub is_link_in : List ℕ → ℕ → Bool
is_link_in mem i = eqb (tag (cell_at mem i)) 1

unfoldable pub links_in : List ℕ → ℕ
links_in mem = count (is_link_in mem) (cells_in mem)

-- On the way from i to its root, paths have been shortened as far as cell r: only links have changed.
pub record Shortened (before after : List ℕ) (i r : ℕ) : Type 0 where
  pub same_length : length after ≡ length before
  pub sound : Sound after
  pub keeps : (ρ : Subst) → Sat ρ (store_of before) ↔ Sat ρ (store_of after)
  pub equal : (ρ : Subst) → Sat ρ (store_of after) → ρ i ≡ ρ r
  pub inside : r < cells_in after
  pub same_links : links_in after ≡ links_in before
  pub pairs : (k : ℕ) → pair_at after k ≡ pair_at before k
  pub roots : (k : ℕ) → tag (cell_at before k) ≢ 1 → cell_at after k ≡ cell_at before k

-- A cell that is no link.
pub record IsRoot (mem : List ℕ) (r : ℕ) : Type 0 where
  pub inside : r < cells_in mem
  pub no_link : tag (cell_at mem r) ≢ 1

-- The whole way to the root.
pub record Rooted (before after : List ℕ) (i r : ℕ) : Type 0 where
  pub way : Shortened before after i r
  pub root : IsRoot after r

-- ---- Pending pairs

-- The types of the first n pairs are equal.
pub record Pending (ρ : Subst) (mem : List ℕ) (n : ℕ) : Type 0 where
  pub at : (k : ℕ) → k < n → ρ (pair_at mem k).left ≡ ρ (pair_at mem k).right

-- And those of two cells besides.
abbrev pub AllEqual : List ℕ → ℕ → ℕ → ℕ → Subst → Type 0
AllEqual mem i j n ρ = (ρ i ≡ ρ j) × Pending ρ mem n

-- The first n pairs are cells of the slice.
pub record PairsInside (mem : List ℕ) (n : ℕ) : Type 0 where
  pub at : (k : ℕ) → k < n → ((pair_at mem k).left < cells_in mem) × ((pair_at mem k).right < cells_in mem)

-- ---- What is known of two cells

-- The words of two base types or of two arrows.
pub record Alike (v w : Words) : Type 0 where
  pub same_tag : v.tag ≡ w.tag
  pub built : 1 < v.tag
  pub tag_known : v.tag ≤ 5

-- They are the same base type, or two arrows with these parts.
abbrev pub PartsOf : TypeCell → TypeCell → Option Parts → Type 0
PartsOf one other None = one ≡ other
PartsOf one other (Some p) = (one ≡ Arrow p.left.left p.right.left) × (other ≡ Arrow p.left.right p.right.right)

-- The parts of two arrows are cells of the slice,
abbrev pub PartsInside : List ℕ → Parts → Type 0
PartsInside mem p = (p.left.left < cells_in mem) × (p.left.right < cells_in mem) × (p.right.left < cells_in mem) × (p.right.right < cells_in mem)

-- and equal.
abbrev pub PartsEqual : Parts → Subst → Type 0
PartsEqual p ρ = (ρ p.left.left ≡ ρ p.left.right) × (ρ p.right.left ≡ ρ p.right.right)

-- ---- A root is told what it is

pub record SayReady (mem : List ℕ) (r : ℕ) (c : TypeCell) : Type 0 where
  pub sound : Sound mem
  pub root : IsRoot mem r
  pub sayable : Sayable (cells_in mem) c

-- ---- Two cells meet

-- Two roots, the smaller first, and what they say.
pub record TwoRoots (mem : List ℕ) (i j : ℕ) (low high : Words) : Type 0 where
  pub sound : Sound mem
  pub less : i < j
  pub low_root : IsRoot mem i
  pub high_root : IsRoot mem j
  pub low_is : low ≡ words_at mem i
  pub high_is : high ≡ words_at mem j

-- They have been made equal, with a demand left over; no pair has changed.
pub record Joined (before after : List ℕ) (i j : ℕ) (rest : Subst → Type 0) : Type 0 where
  pub sound : Sound after
  pub keeps : (ρ : Subst) → (Sat ρ (store_of before) × (ρ i ≡ ρ j)) ↔ (Sat ρ (store_of after) × rest ρ)
  pub pairs : (k : ℕ) → pair_at after k ≡ pair_at before k

-- They never are equal, or they are now, or as soon as the parts of two arrows are.
abbrev pub MetIs : List ℕ → List ℕ → ℕ → ℕ → Result (Option Parts) Clash → Type 0
MetIs before after i j (Err _) = (ρ : Subst) → Sat ρ (store_of before) → ¬ (ρ i ≡ ρ j)
MetIs before after i j (Ok None) = Joined before after i j (λ ρ. Unit) × (links_in before ≤ links_in after)
MetIs before after i j (Ok (Some p)) =
    Joined before after i j (PartsEqual p) × (links_in after ≡ suc (links_in before)) × PartsInside after p

pub record Meeting (before after : List ℕ) (i j : ℕ) (met : Result (Option Parts) Clash) : Type 0 where
  pub same_length : length after ≡ length before
  pub says : MetIs before after i j met
