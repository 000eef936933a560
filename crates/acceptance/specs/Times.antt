-- The count of code 3: a number stands in exactly one field of the nodes below n exactly if it is counted once there.
use Prim.Native.Nat.{ℕ, zero, suc, ◌+◌, ◌≤◌, ◌<◌}
use Rattle.std.specs.Prelude.{◌≡◌, ◌⊎◌, Bool, true, false}
use Rattle.std.proofs.Math.Path.{refl}
use Rattle.std.proofs.Common.{inl, inr, ⊎_elim, arith}
use Rattle.std.proofs.Math.Decide.{ℕ_discrete}
use Rattle.table.specs.Node.{Nodes, Field, field_a, field_b, field_c, child, Kid}
use Rattle.table.specs.Walk.{holds}
use Rattle.language.specs.Once.{once}
use Rattle.acceptance.specs.Refusals.{times_in, times_below}
use Rattle.table.specs.TreeLaws.{holds_true, holds_false}

-- ---- Counts of places, where a place is a field of a node

abbrev Places : Type 1
Places = ℕ → Field → Type 0

-- There is exactly one such place.
pub record Only (P : ℕ → Field → Type 0) : Type 0 where
  pub node : ℕ
  pub field : Field
  pub is : P node field
  pub alone : (q : ℕ) (g : Field) → P q g → (q ≡ node) × (g ≡ field)

-- There are m such places, as far as none, one and more are concerned.
data Times (P : ℕ → Field → Type 0) (m : ℕ) : Type 0 where
  never : m ≡ 0 → ((p : ℕ) (f : Field) → P p f → ⊥) → Times P m
  one : m ≡ 1 → Only P → Times P m
  more : 2 ≤ m → (p q : ℕ) (f g : Field) → P p f → P q g → (q ≡ p → g ≡ f → ⊥) → Times P m

abbrev Either : Places → Places → Places
Either P Q p f = P p f ⊎ Q p f

sum : {P Q : Places} {a b : ℕ} → ((p : ℕ) (f : Field) → P p f → Q p f → ⊥) → Times P a → Times Q b → Times (Either P Q) (a + b)
sum apart (never i h) (never j h') = never (omega arith) (λ p f. ⊎_elim (h p f) (h' p f))
sum apart (never i h) (one j o) =
    one (omega arith) (record { node = o.node; field = o.field; is = inr o.is; alone = λ q g. ⊎_elim (λ x. absurd (h q g x)) (o.alone q g) })
sum apart (never i h) (more j p q f g x y two) = more (omega arith) p q f g (inr x) (inr y) two
sum apart (one i o) (never j h) =
    one (omega arith) (record { node = o.node; field = o.field; is = inl o.is; alone = λ q g. ⊎_elim (o.alone q g) (λ y. absurd (h q g y)) })
sum apart (one i o) (one j o') =
    more (omega arith) o.node o'.node o.field o'.field (inl o.is) (inr o'.is) (λ e e'. apart o.node o.field o.is (rw (e, e') at o'.is))
sum apart (one i o) (more j p q f g x y two) = more (omega arith) p q f g (inr x) (inr y) two
sum apart (more i p q f g x y two) other = more (omega arith) p q f g (inl x) (inl y) two

same : {P Q : Places} {m : ℕ} → ((p : ℕ) (f : Field) → P p f → Q p f) → ((p : ℕ) (f : Field) → Q p f → P p f) → Times P m → Times Q m
same to from (never i h) = never i (λ p f y. h p f (from p f y))
same to from (one i o) =
    one i (record { node = o.node; field = o.field; is = to o.node o.field o.is; alone = λ q g y. o.alone q g (from q g y) })
same to from (more i p q f g x y two) = more i p q f g (to p f x) (to q g y) two

-- ---- The places where k stands

-- Field f of node p, if k stands there.
abbrev In : Nodes → ℕ → ℕ → Field → Places
In nd k p f q g = (q ≡ p) × (g ≡ f) × Kid nd q g k

-- Some field of a node below n where k stands.
abbrev pub Below : Nodes → ℕ → ℕ → ℕ → Field → Type 0
Below nd k n q g = (q < n) × Kid nd q g k

module _ (nd : Nodes) (k : ℕ) where
  in_field : (p : ℕ) (f : Field) → Times (In nd k p f) (once (holds k (child (nd p) f)))
  in_field p f = go (holds k (child (nd p) f)) refl
    where
      go : (b : Bool) → holds k (child (nd p) f) ≡ b → Times (In nd k p f) (once b)
      go true h =
          one refl (record { node = p; field = f; is = (refl, refl, record { stands = holds_true k (child (nd p) f) h }); alone = λ q g x. (x.0, x.1) })
      go false h = never refl (λ q g x. holds_false k (child (nd p) f) h (rw (x.0, x.1) at x.2.stands))

  -- The fields of node p where k stands, in the order in which `times_in` adds.
  abbrev Row : ℕ → Places
  Row p = Either (Either (In nd k p field_a) (In nd k p field_b)) (In nd k p field_c)

  row : (p : ℕ) → Times (Row p) (times_in (nd p) k)
  row p = sum (λ q g. ⊎_elim (λ x y. differ (cc)) (λ x y. differ (cc))) (sum (λ q g x y. differ (cc)) (in_field p field_a) (in_field p field_b)) (in_field p field_c)
    where
      differ : ◌≡◌ {A = ℕ} 0 1 → ⊥
      differ z = omega arith

  below : (n : ℕ) → Times (Below nd k n) (times_below nd n k)
  unfolding times_below
  below zero = never refl (λ q g x. omega arith)
  below (suc n) = same to (λ q g x. from q g x (ℕ_discrete q n)) (sum apart (below n) (row n))
    where
      here : {q : ℕ} {g : Field} → Row n q g → (q ≡ n) × Kid nd q g k
      here (inl (inl x)) = (x.0, x.2)
      here (inl (inr x)) = (x.0, x.2)
      here (inr x) = (x.0, x.2)

      apart : (q : ℕ) (g : Field) → Below nd k n q g → Row n q g → ⊥
      apart q g x y = let e : q ≡ n = (here y).0 in omega arith

      to : (q : ℕ) (g : Field) → Either (Below nd k n) (Row n) q g → Below nd k (suc n) q g
      to q g (inl x) = (omega arith, x.1)
      to q g (inr x) = let e : q ≡ n = (here x).0 in (omega arith, (here x).1)

      from : (q : ℕ) (g : Field) → Below nd k (suc n) q g → Dec (q ≡ n) → Either (Below nd k n) (Row n) q g
      from q g x (no e) = inl (omega arith, x.1)
      from q field_a x (yes e) = inr (inl (inl (e, refl, x.1)))
      from q field_b x (yes e) = inr (inl (inr (e, refl, x.1)))
      from q field_c x (yes e) = inr (inr (e, refl, x.1))

  -- ---- Counted once

  pub counted_once : {n : ℕ} → times_below nd n k ≡ 1 → Only (Below nd k n)
  counted_once {n} e = go (below n)
    where
      go : Times (Below nd k n) (times_below nd n k) → Only (Below nd k n)
      go (never i h) = absurd (omega arith)
      go (one i o) = o
      go (more i p q f g x y two) = absurd (omega arith)

  pub only_once : {n : ℕ} → Only (Below nd k n) → times_below nd n k ≡ 1
  only_once {n} o = go (below n)
    where
      go : Times (Below nd k n) (times_below nd n k) → times_below nd n k ≡ 1
      go (never i h) = absurd (h o.node o.field o.is)
      go (one i o) = i
      go (more i p q f g x y two) = let u = o.alone p f x in let v = o.alone q g y in absurd (two (cc) (cc))
