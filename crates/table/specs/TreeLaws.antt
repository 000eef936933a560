-- What a tree gives to all floors above: the law of the walk at a child, and induction from the root and from the leaves.
use Rattle.std.specs.Prelude.{ℕ, zero, suc, ◌+◌, ◌≤◌, ◌<◌, ◌≡◌, refl, Bool, true, false, cond, Option, None, Some}
use Rattle.std.proofs.Common.{ap, arith, eqb-true}
use Rattle.std.proofs.Math.Decide.{ℕ_discrete}
use Rattle.std.proofs.lemmas.Bool.{eqb-false}
use Rattle.table.specs.Node.{Node, Nodes, Field, field_a, field_b, field_c, child, Kid}
use Rattle.table.specs.Walk.{holds, field_holding, at_parent, climb_from, climb}
use Rattle.table.specs.Tree.{Tree}

-- ---- The field that holds a child

pub holds_true : (k : ℕ) (o : Option ℕ) → holds k o ≡ true → o ≡ Some k
holds_true k None h = absurd (let z : ◌≡◌ {A = ℕ} 0 1 = cc in omega arith)
holds_true k (Some c) h = ap Some (eqb-true c k h)

pub holds_false : (k : ℕ) (o : Option ℕ) → holds k o ≡ false → o ≡ Some k → ⊥
holds_false k None h q = let z : ◌≡◌ {A = ℕ} 0 1 = cc in omega arith
holds_false k (Some c) h q = eqb-false c k h (cc)

-- What `field_holding` finds.
data Held (k : ℕ) (node : Node) : Option Field → Type 0 where
  held : {f : Field} → child node f ≡ Some k → Held k node (Some f)
  nowhere : ((f : Field) → child node f ≡ Some k → ⊥) → Held k node None

held_is : (k : ℕ) (node : Node) → Held k node (field_holding k node)
held_is k node = go (holds k (child node field_a)) (holds k (child node field_b)) (holds k (child node field_c)) refl refl refl
  where
    go : (a b c : Bool) → holds k (child node field_a) ≡ a → holds k (child node field_b) ≡ b → holds k (child node field_c) ≡ c →
        Held k node (cond a (Some field_a) (cond b (Some field_b) (cond c (Some field_c) None)))
    go true b c p q r = held (holds_true k (child node field_a) p)
    go false true c p q r = held (holds_true k (child node field_b) q)
    go false false true p q r = held (holds_true k (child node field_c) r)
    go false false false p q r =
        nowhere (elim [ field_a ↦ holds_false k (child node field_a) p | field_b ↦ holds_false k (child node field_b) q | field_c ↦ holds_false k (child node field_c) r ])

-- ---- The walk

pub climb_root : {A : Type 0} (top : A) (step : ℕ → Field → A → A) (nd : Nodes) → climb top step nd 0 ≡ top
unfolding climb_from
climb_root top step nd = refl

module _ {nd : Nodes} {n : ℕ} (t : Tree nd n) where
  pub one_place : {p q c : ℕ} {f g : Field} → p < n → q < n → Kid nd p f c → Kid nd q g c → (p ≡ q) × (f ≡ g)
  one_place {p} {q} below below' kid kid' =
      let same : p ≡ q = t.one_parent below below' kid kid' in
      (same, t.one_field below' (rw same at kid) kid')

  -- The walk from a child passes the nodes above the parent and takes its step at the parent.
  pub climb_kid : {A : Type 0} (top : A) (step : ℕ → Field → A → A) {p c : ℕ} {f : Field} → p < n → Kid nd p f c → climb top step nd c ≡ step p f (climb top step nd p)
  unfolding climb_from
  climb_kid {A} top step {p} {c} {f} below kid = past c (t.descending.greater below kid) (omega (arith, t.descending.inside below kid))
    where
      result : A
      result = step p f (climb top step nd p)

      at : (q : ℕ) → q < n → p ≤ q → (p < q → climb_from top step nd c q ≡ result) → (o : Option Field) → Held c (nd q) o →
          at_parent o (climb_from top step nd c q) (λ g. step q g (climb top step nd q)) ≡ result
      at q h above rest (Some g) (held e) =
          let (same, same_field) = one_place h below (record { stands = e }) kid in
          cc
      at q h above rest None (nowhere none_stands) =
          let apart : ¬ (p ≡ q) = λ same. none_stands f (rw same at kid.stands) in
          rest (omega arith)

      past : (q : ℕ) → p < q → q ≤ n → climb_from top step nd c q ≡ result
      past zero above h = absurd (omega arith)
      past (suc q) above h = at q h (omega arith) (λ more. past q more (omega arith)) (field_holding c (nd q)) (held_is c (nd q))

  -- ---- Induction

  -- From the root.
  pub down : (P : ℕ → Type 0) → P 0 → ((p : ℕ) (f : Field) (c : ℕ) → p < n → Kid nd p f c → P p → P c) → (k : ℕ) → k < n → P k
  down P at_root to_kid k = below (suc k) k (omega arith)
    where
      below : (m k : ℕ) → k < m → k < n → P k
      below zero k low h = absurd (omega arith)
      below (suc m) k low h = go (ℕ_discrete 0 k) (below m)
        where
          go : Dec (0 ≡ k) → ((p : ℕ) → p < m → p < n → P p) → P k
          go (yes q) before = rw (← q) at_root
          go (no q) before =
              let (p, f, inside, kid) = t.parent k (omega arith) h in
              to_kid p f k inside kid (before p (omega (arith, t.descending.greater inside kid)) inside)

  -- From the leaves.
  pub up : (P : ℕ → Type 0) → ((k : ℕ) → k < n → ((f : Field) (c : ℕ) → Kid nd k f c → P c) → P k) → (k : ℕ) → k < n → P k
  up P from_kids k = above n k (omega arith)
    where
      above : (m k : ℕ) → n ≤ k + m → k < n → P k
      above zero k low h = absurd (omega arith)
      above (suc m) k low h = from_kids k h (λ f c kid. above m c (omega (arith, t.descending.greater h kid)) (t.descending.inside h kid))
