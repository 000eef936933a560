-- If the nodes have as many children fields as there are nodes but the root, and each node but the root stands in one, then each stands in
-- exactly one.
use Prim.Native.Nat.{ℕ, zero, suc, ◌+◌, ◌≤◌, ◌<◌}
use Rattle.std.specs.Prelude.{◌≡◌, refl, false, eqb, Option, None, Some, is_some}
use Rattle.std.proofs.Math.Path.{ap}
use Rattle.std.proofs.Math.Decide.{ℕ_discrete}
use native.Mathlib.Omega.{arith}
use Rattle.std.proofs.Common.{add-one, ne_eqb}
use Rattle.table.specs.Node.{Node, Nodes, field_a, field_b, field_c, child}
use Rattle.table.specs.Walk.{holds}
use Rattle.language.specs.Once.{once}
use Rattle.language.proofs.Count.{once_small}
use Rattle.acceptance.specs.Refusals.{times_in, times_below, first_from}
use Rattle.acceptance.specs.Counting.{misplaced_below, children_in, children_below}
use Rattle.acceptance.specs.Parents.{times_grow, times_next, placed_if}
use Rattle.acceptance.specs.FirstFrom.{none_first}

-- ---- Sums

sum : (ℕ → ℕ) → ℕ → ℕ
sum f zero = 0
sum f (suc n) = sum f n + f n

sum_of_sums : (f g : ℕ → ℕ) (n : ℕ) → sum (λ k. f k + g k) n ≡ sum f n + sum g n
unfolding sum
sum_of_sums f g zero = refl
sum_of_sums f g (suc n) =
    let rest = sum_of_sums f g n in
    omega arith

-- A child is met once at most.
sum_nothing : (n : ℕ) → sum (λ k. once (holds k None)) n ≡ 0
unfolding sum
sum_nothing zero = refl
sum_nothing (suc n) = omega (arith, sum_nothing n)

met_past : (c n : ℕ) → n ≤ c → sum (λ k. once (holds k (Some c))) n ≡ 0
unfolding sum
met_past c zero h = refl
met_past c (suc n) h =
    let rest = met_past c n (omega arith) in
    rw (ne_eqb c n (omega arith)) (omega arith)

met_once : (c n : ℕ) → sum (λ k. once (holds k (Some c))) n ≤ 1
unfolding sum
met_once c zero = omega arith
met_once c (suc n) = go (ℕ_discrete c n) (met_once c n)
  where
    go : Dec (c ≡ n) → sum (λ k. once (holds k (Some c))) n ≤ 1 → sum (λ k. once (holds k (Some c))) n + once (eqb c n) ≤ 1
    go (yes e) rest =
        let past = met_past c n (omega arith) in
        let one = once_small (eqb c n) in
        omega arith
    go (no d) rest = rw (ne_eqb c n d) (omega arith)

met_at_most : (o : Option ℕ) (n : ℕ) → sum (λ k. once (holds k o)) n ≤ once (is_some o)
met_at_most None n = rw (sum_nothing n) (omega arith)
met_at_most (Some c) n = met_once c n

-- ---- Children and parents, counted both ways

node_counted : (node : Node) (n : ℕ) → sum (times_in node) n ≤ children_in node
node_counted node n =
    let a = met_at_most (child node field_a) n in
    let b = met_at_most (child node field_b) n in
    let c = met_at_most (child node field_c) n in
    let ab = sum_of_sums (λ k. once (holds k (child node field_a))) (λ k. once (holds k (child node field_b))) n in
    let abc = sum_of_sums (λ k. once (holds k (child node field_a)) + once (holds k (child node field_b))) (λ k. once (holds k (child node field_c))) n in
    omega arith

nodes_counted : (nd : Nodes) (m n : ℕ) → sum (times_below nd m) n ≤ children_below nd m
unfolding times_below children_below
nodes_counted nd zero n =
    let none_held : sum (times_below nd 0) n ≡ 0 = sum_nothing n in
    omega arith
nodes_counted nd (suc m) n =
    let before = nodes_counted nd m n in
    let last = node_counted (nd m) n in
    let both = sum_of_sums (times_below nd m) (times_in (nd m)) n in
    omega arith

-- ---- At least one each, and no more than there are

module _ (f : ℕ → ℕ) where
  at_least : (n : ℕ) → ((k : ℕ) → 0 < k → k < suc n → 1 ≤ f k) → n ≤ sum f (suc n)
  unfolding sum
  at_least zero each = omega arith
  at_least (suc n) each =
      let rest = at_least n (λ k low high. each k low (omega arith)) in
      let last = each (suc n) (omega arith) (omega arith) in
      omega arith

  and_one_more : (n j : ℕ) → ((k : ℕ) → 0 < k → k < suc n → 1 ≤ f k) → 0 < j → j < suc n → n + f j ≤ suc (sum f (suc n))
  unfolding sum
  and_one_more zero j each low high = absurd (omega arith)
  and_one_more (suc n) j each low high = go (ℕ_discrete j (suc n)) (λ below. and_one_more n j (λ k l h. each k l (omega arith)) low below)
    where
      go : Dec (j ≡ suc n) → (j < suc n → n + f j ≤ suc (sum f n + f n)) → suc n + f j ≤ suc (sum f n + f n + f (suc n))
      go (yes e) rest =
          let others = at_least n (λ k l h. each k l (omega arith)) in
          let same : f j ≡ f (suc n) = ap f e in
          omega arith
      go (no d) rest =
          let others = rest (omega arith) in
          let last = each (suc n) (omega arith) (omega arith) in
          omega arith

module _ (nd : Nodes) {n : ℕ} (counted : children_below nd n + 1 ≡ n) (each : (k : ℕ) → 0 < k → k < n → 1 ≤ times_below nd k k) where
  exactly_once : (k : ℕ) → 0 < k → k < n → times_below nd k k ≡ 1
  exactly_once k low high =
      let m = children_below nd n in
      let is : n ≡ suc m = omega arith in
      let grown : (j : ℕ) → j < n → times_below nd j j ≤ times_below nd n j = λ j h. times_grow nd j j n (omega arith) in
      let more = and_one_more (times_below nd n) m k (λ j l h. omega (arith, each j l (omega arith), grown j (omega arith))) low (omega arith) in
      let all = nodes_counted nd n n in
      let below = grown k high in
      let one = each k low high in
      omega (arith, rw (← is) at more)

  pub all_placed : first_from (misplaced_below nd) n 0 ≡ None
  all_placed = none_first (misplaced_below nd) n 0 (λ k low high. go k high (ℕ_discrete k 0))
    where
      go : (k : ℕ) → k < 0 + n → Dec (k ≡ 0) → misplaced_below nd k ≡ false
      go k high (yes e) = rw e refl
      go k high (no d) = placed_if nd k (exactly_once k (omega arith) (omega arith))

-- ---- As the loops count

pub no_children_yet : (nd : Nodes) → children_below nd 0 ≡ 0
unfolding children_below
no_children_yet nd = refl

pub children_next : (nd : Nodes) (p : ℕ) → children_below nd (p + 1) ≡ children_below nd p + children_in (nd p)
unfolding children_below
children_next nd p = rw add-one

-- A node that holds k below it is enough.
pub parent_found : (nd : Nodes) (k p : ℕ) → p < k → 0 < times_in (nd p) k → 1 ≤ times_below nd k k
parent_found nd k p low holds_it =
    let next = times_next nd k p in
    let grown = times_grow nd k (p + 1) k (omega arith) in
    omega arith

-- Node k is asked after those below it.
pub parents_so_far : (nd : Nodes) {k : ℕ} → ((j : ℕ) → 0 < j → j < k → 1 ≤ times_below nd j j) → 1 ≤ times_below nd k k → (j : ℕ) → 0 < j → j < k + 1 → 1 ≤ times_below nd j j
parents_so_far nd {k} before here j low high = go (ℕ_discrete j k)
  where
    go : Dec (j ≡ k) → 1 ≤ times_below nd j j
    go (yes e) = rw e here
    go (no d) = before j low (omega arith)
