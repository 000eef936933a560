-- Code 0 of the check says that a table is a checked one, and a checked one gets code 0.
use Rattle.std.specs.Prelude.{ℕ, ◌*◌, ◌/◌, ◌%◌, ◌≤◌, ◌<◌, ◌≡◌, refl, Bool, true, false, cond, ◌&&◌, ◌||◌, List, eqb, ltb, length, Option, None, Some, is_some, Result, Ok}
use Rattle.std.proofs.Common.{subst, arith, eqb-true, ltb-false, eq-eqb, ne_eqb, le-ltb}
use Rattle.std.proofs.Math.Bool.{not}
use Rattle.std.proofs.Math.Decide.{ℕ_discrete}
use Rattle.std.proofs.lemmas.Bool.{eqb-false, not-false}
use Rattle.language.specs.Expression.{Name, Closed}
use Rattle.language.proofs.MostGeneral.{or_false}
use Rattle.table.specs.Node.{Node, Nodes, constant_node, name_node, application_node, if_node, lambda_node, let_node, rec_node, Field, Kid, node_at, count_of}
use Rattle.table.specs.Scope.{scope, first_named, name_of, binder_for}
use Rattle.acceptance.specs.Refusals.{wrong_count, fits, times_below, misplaced, unbound, first_from, refuse_at, check_nodes, check_of}
use Rattle.acceptance.specs.declared.Refusal.{Refusal}
use Rattle.acceptance.specs.declared.Refusal.TheVariants.{WrongCount, Misfit, Misplaced, Unbound}
use Rattle.table.specs.Tree.{Descending, Tree, ClosedTree}
use Rattle.table.specs.TreeLaws.{one_place}
use Rattle.table.specs.ExpressionOf.{exp_of}
use Rattle.table.specs.ClosedFormula.{root_closed}
use Rattle.acceptance.specs.Checked.{Checked}
use Rattle.acceptance.specs.FirstFrom.{first_none, none_first}
use Rattle.acceptance.specs.Fitting.{kids_of_fitting_in_range}
use Rattle.acceptance.specs.Times.{Only, Below, counted_once, only_once}

-- ---- Code 1

pub right_count : (l : ℕ) → wrong_count l ≡ false → (l ≡ 4 * (l / 4)) × (0 < l / 4) × (l / 4 ≤ 512)
right_count l h =
    let (first, high) = or_false (eqb l 0 || not (eqb (l % 4) 0)) (ltb 2048 l) h in
    let (empty, whole) = or_false (eqb l 0) (not (eqb (l % 4) 0)) first in
    omega (arith, eqb-false l 0 empty, eqb-true (l % 4) 0 (not-false _ whole), ltb-false 2048 l high)

count_right : (l n : ℕ) → l ≡ 4 * n → 0 < n → n ≤ 512 → wrong_count l ≡ false
count_right l n is low high = rw (ne_eqb l 0 (omega arith), eq-eqb (l % 4) 0 (omega arith), le-ltb 2048 l (omega arith))

pub count_is : {words : List ℕ} {n : ℕ} → Checked words n → count_of words ≡ n
count_is c = omega (arith, c.length_is)

-- ---- Code 3

module _ (nd : Nodes) where
  placed_once : (n k : ℕ) → 0 < k → misplaced nd n k ≡ false → times_below nd n k ≡ 1
  placed_once n k low h = eqb-true (times_below nd n k) 1 (not-false _ (rw (ne_eqb k 0 (omega arith)) at h))

  well_placed : (n k : ℕ) → (0 < k → times_below nd n k ≡ 1) → misplaced nd n k ≡ false
  well_placed n k h = go (ℕ_discrete k 0)
    where
      go : Dec (k ≡ 0) → misplaced nd n k ≡ false
      go (yes e) = rw (eq-eqb k 0 e)
      go (no e) = rw (ne_eqb k 0 e, eq-eqb (times_below nd n k) 1 (h (omega arith)))

  only_in_tree : {n : ℕ} → Tree nd n → (c : ℕ) → 0 < c → c < n → Only (Below nd c n)
  only_in_tree t c low high =
      let (p, f, below, kid) = t.parent c low high in
      record { node = p; field = f; is = (below, kid); alone = λ q g x. one_place t x.0 below x.1 kid }

  -- Children in range that are children exactly once make a tree, whatever the reading.
  pub tree_of_tests : {n : ℕ} → 0 < n → Descending nd n → ((k : ℕ) → k < n → misplaced nd n k ≡ false) → Tree nd n
  tree_of_tests {n} some_nodes range placed =
      record {
        root = some_nodes;
        descending = range;
        parent = λ c low high. let o = only c low high in (o.node, o.field, o.is.0, o.is.1);
        one_parent = λ h h' kid kid'. (place h h' kid kid').0;
        one_field = λ h kid kid'. (place h h kid kid').1;
      }
    where
      only : (c : ℕ) → 0 < c → c < n → Only (Below nd c n)
      only c low high = counted_once nd c (placed_once n c low (placed c high))

      place : {p q c : ℕ} {f g : Field} → p < n → q < n → Kid nd p f c → Kid nd q g c → (p ≡ q) × (f ≡ g)
      place {p} {q} {c} {f} {g} h h' kid kid' =
          let o = only c (omega (arith, range.greater h kid)) (range.inside h kid) in
          let here = o.alone p f (h, kid) in
          let there = o.alone q g (h', kid') in
          (cc, cc)

  -- ---- Code 4

  has_binder : (k : ℕ) (x : Name) → unbound nd k ≡ false → nd k ≡ name_node x → (b : ℕ) × (first_named nd x (scope nd k) ≡ Some b)
  has_binder k x h e = go (first_named nd x (scope nd k)) (not-false _ (rw e at h))
    where
      go : (o : Option ℕ) → is_some o ≡ true → (b : ℕ) × (o ≡ Some b)
      go None h = absurd (let z : ◌≡◌ {A = ℕ} 0 1 = cc in omega arith)
      go (Some b) h = (b, refl)

  not_unbound : {n : ℕ} → ClosedTree nd n → (k : ℕ) → k < n → unbound nd k ≡ false
  not_unbound t k h = go (nd k) refl
    where
      go : (node : Node) → nd k ≡ node → is_some (name_of node) && not (is_some (binder_for nd k (name_of node))) ≡ false
      go (constant_node c) e = refl
      go (name_node x) e = rw (t.bound h e).1
      go (application_node l r) e = refl
      go (if_node e₀ e₁ e₂) e = refl
      go (lambda_node x b) e = refl
      go (let_node x e₁ e₂) e = refl
      go (rec_node x b) e = refl

-- ---- All of them

-- A test that refuses nothing finds no node, and the next one decides.
finds_nothing : (refusal : ℕ → Refusal) (bad : ℕ → Bool) (n m : ℕ) (otherwise : Result ℕ Refusal) → refuse_at refusal (first_from bad n 0) otherwise ≡ Ok m →
    ((k : ℕ) → k < n → bad k ≡ false) × (otherwise ≡ Ok m)
finds_nothing refusal bad n m otherwise h = go (first_from bad n 0) refl h
  where
    go : (o : Option ℕ) → first_from bad n 0 ≡ o → refuse_at refusal o otherwise ≡ Ok m → ((k : ℕ) → k < n → bad k ≡ false) × (otherwise ≡ Ok m)
    go None e h = (λ k below. first_none bad n 0 e k (omega arith) (omega arith), h)
    go (Some k) e h = absurd (let z : ◌≡◌ {A = ℕ} 0 1 = cc in omega arith)

module _ (words : List ℕ) (n : ℕ) where
  abbrev nd : Nodes
  nd = node_at words

  descending : ((k : ℕ) → k < n → not (fits words n k) ≡ false) → Descending nd n
  descending fitting = record { greater = λ h kid. (range h kid).0; inside = λ h kid. (range h kid).1 }
    where
      range : {p c : ℕ} {f : Field} → p < n → Kid nd p f c → (p < c) × (c < n)
      range {p} h kid = kids_of_fitting_in_range n p words (not-false _ (fitting p h)) kid

  pub checked_is_accepted : Checked words n → check_of words ≡ Ok n
  unfolding check_of
  checked_is_accepted c =
      let closed = c.closed in
      let t = closed.tree in
      rw (
        count_right (length words) n c.length_is t.root c.at_most_512,
        count_is c,
        none_first (λ k. not (fits words n k)) n 0 (λ k low high. rw (c.fields k (omega arith))),
        none_first (misplaced nd n) n 0 (λ k low high. well_placed nd n k (λ more. only_once nd k (only_in_tree nd t k more (omega arith)))),
        none_first (unbound nd) n 0 (λ k low high. not_unbound nd closed k (omega arith)),
      )

pub accepted_is_checked : (words : List ℕ) (n : ℕ) → check_of words ≡ Ok n → Checked words n
unfolding check_of
accepted_is_checked words n h = go (wrong_count (length words)) refl h
  where
    m : ℕ
    m = count_of words

    go : (b : Bool) → wrong_count (length words) ≡ b → refuse_at (λ place. WrongCount) (cond b (Some 0) None) (check_nodes words (node_at words) m) ≡ Ok n → Checked words n
    go true w h = absurd (let z : ◌≡◌ {A = ℕ} 0 1 = cc in omega arith)
    go false w h =
        let (is, low, high) = right_count (length words) w in
        let (fitting, h₃) = finds_nothing Misfit (λ k. not (fits words m k)) m n _ h in
        let (placed, h₄) = finds_nothing Misplaced (misplaced (node_at words) m) m n _ h₃ in
        let (bound, h₀) = finds_nothing Unbound (unbound (node_at words)) m n _ h₄ in
        let same : m ≡ n = cc in
        subst (Checked words) same (record {
          length_is = is;
          at_most_512 = high;
          fields = λ k below. not-false _ (fitting k below);
          closed = record { tree = tree_of_tests (node_at words) low (descending words m fitting) placed; bound = λ below e. has_binder (node_at words) _ _ (bound _ below) e };
        })

-- ---- The formula

pub formula_closed : (words : List ℕ) (n : ℕ) → Checked words n → Closed (exp_of words)
formula_closed words n c = rw (count_is c) (root_closed c.closed)
