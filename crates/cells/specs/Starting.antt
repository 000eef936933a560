-- New cells: how they are written one after the other, that their words are determined, and which valuations satisfy them.
use Rattle.std.specs.Prelude.{ℕ, zero, suc, ◌+◌, ◌*◌, ◌/◌, ◌%◌, ◌≤◌, ◌<◌, ◌≡◌, refl, ◌↔◌, List, length, get_or, replicate}
use Rattle.std.proofs.Common.{sym, ◌∙◌, ap, ap₂, subst, arith, ext_get_or}
use Rattle.std.proofs.Math.Decide.{ℕ_discrete, dec_lt}
use Rattle.std.proofs.lemmas.List.{length-replicate}
use Rattle.std.proofs.Math.ListN.{get_or-eq_default}
use Rattle.language.specs.Ty.{bool, int, ◌⇒◌, Subst}
use Rattle.cells.specs.Layout.{words_at, cell_in, as_words, MaySay, Allowed, pair_at, no_pair, store_of, cells_in, Sound}
use Rattle.cells.specs.StoreLaws.{cell_back, words_allowed}
use Rattle.cells.specs.Cells.{Fits, Sat}
use Rattle.cells.specs.CellSteps.{fits_at}
use Rattle.cells.specs.Puts.{CellPut}
use Rattle.cells.specs.Interface.{constants, new_cell, Started}
use Rattle.cells.specs.declared.memory.Pair.{Pair}
use Rattle.cells.specs.declared.TypeCell.TheVariants.{Free}
use Rattle.cells.specs.declared.memory.Words.{Words}

-- ---- One after the other

-- The first k are new ones, and the others are free.
pub record StartedBelow (before after : List ℕ) (k : ℕ) : Type 0 where
  pub same_length : length after ≡ length before
  pub new : (i : ℕ) → i < k → words_at after i ≡ as_words (new_cell i)
  pub others : (i : ℕ) → k ≤ i → words_at after i ≡ as_words Free
  pub pairs : (i : ℕ) → pair_at after i ≡ no_pair

zero_everywhere : (m k : ℕ) → ◌≡◌ {A = ℕ} (get_or (replicate m 0) k 0) 0
zero_everywhere zero k = refl
zero_everywhere (suc m) zero = refl
zero_everywhere (suc m) (suc k) = zero_everywhere m k

pub cleared_first : {before after : List ℕ} → after ≡ replicate (length before) 0 → StartedBelow before after 0
cleared_first {before} {after} is = record {
  same_length = ap length is ∙ length-replicate _ _;
  new = λ i h. absurd (omega arith);
  others = λ i h. rw is (rw (word (5 * i), word (5 * i + 1), word (5 * i + 2)) refl);
  pairs = λ i. rw is (rw (word (5 * i + 3), word (5 * i + 4)) refl);
}
  where
    word : (k : ℕ) → ◌≡◌ {A = ℕ} (get_or (replicate (length before) 0) k 0) 0
    word = zero_everywhere (length before)

pub one_started : {before mem after : List ℕ} {k : ℕ} → StartedBelow before mem k → CellPut mem after k (as_words (new_cell k)) → StartedBelow before after (suc k)
one_started {after} {k} s p = record {
  same_length = p.same_length ∙ s.same_length;
  new = λ i h. go i h (ℕ_discrete i k);
  others = λ i h. p.others i (omega arith) ∙ s.others i (omega arith);
  pairs = λ i. p.pairs i ∙ s.pairs i;
}
  where
    go : (i : ℕ) → i < suc k → Dec (i ≡ k) → words_at after i ≡ as_words (new_cell i)
    go i h (yes e) = rw e p.there
    go i h (no n) = p.others i n ∙ s.new i (omega arith)

pub all_started : {before after : List ℕ} → StartedBelow before after 4 → Started before after
all_started {after} s = record { same_length = s.same_length; cells = λ i. go i (dec_lt i 4); pairs = s.pairs }
  where
    go : (i : ℕ) → Dec (i < 4) → words_at after i ≡ as_words (new_cell i)
    go i (yes h) = s.new i h
    go i (no h) =
        let past : 4 ≤ i = omega arith in
        s.others i past ∙ ap as_words (sym (get_or-eq_default constants Free past))

-- ---- Their words are determined

-- Every word is one of a cell or of a pair.
same_words : {a b : List ℕ} → length a ≡ length b → ((i : ℕ) → words_at a i ≡ words_at b i) → ((i : ℕ) → pair_at a i ≡ pair_at b i) → a ≡ b
same_words {a} {b} same cells pairs = ext_get_or 0 a b same (λ k h. word k (k / 5) (k % 5) (omega arith) (omega arith))
  where
    word : (k i r : ℕ) → k ≡ 5 * i + r → r < 5 → get_or a k 0 ≡ get_or b k 0
    word k i zero e h =
        let at : k ≡ 5 * i = omega arith in
        rw at (ap (λ (w : Words). w.tag) (cells i))
    word k i (suc zero) e h = rw e (ap (λ (w : Words). w.a) (cells i))
    word k i (suc (suc zero)) e h = rw e (ap (λ (w : Words). w.b) (cells i))
    word k i (suc (suc (suc zero))) e h = rw e (ap (λ (p : Pair). p.left) (pairs i))
    word k i (suc (suc (suc (suc zero)))) e h = rw e (ap (λ (p : Pair). p.right) (pairs i))
    word k i (suc (suc (suc (suc (suc r))))) e h = absurd (omega arith)

pub started_once : {before a b : List ℕ} → Started before a → Started before b → a ≡ b
started_once s t = same_words (s.same_length ∙ sym t.same_length) (λ i. s.cells i ∙ sym (t.cells i)) (λ i. s.pairs i ∙ sym (t.pairs i))

-- ---- Which valuations satisfy them

-- Cells 0 to 3: bool, int, int → int, int → bool.
pub record Constants (ρ : Subst) : Type 0 where
  pub bool_is : ρ 0 ≡ bool
  pub int_is : ρ 1 ≡ int
  pub to_int : ρ 2 ≡ int ⇒ int
  pub to_bool : ρ 3 ≡ int ⇒ bool

new_may_say : {n : ℕ} → 3 < n → (i : ℕ) → MaySay n i (new_cell i)
new_may_say h zero = tt
new_may_say h (suc zero) = tt
new_may_say h (suc (suc zero)) = (omega arith, omega arith)
new_may_say h (suc (suc (suc zero))) = (omega arith, omega arith)
new_may_say h (suc (suc (suc (suc i)))) = tt

module _ {before after : List ℕ} (s : Started before after) where
  pub started_sound : length before ≡ 5 * cells_in before → 3 < cells_in before → cells_in before ≤ 4096 → Sound after
  started_sound whole enough few = record {
    whole = rw s.same_length whole;
    small = rw s.same_length few;
    allowed = λ i. rw s.same_length (subst (Allowed (cells_in before) i) (sym (s.cells i)) (words_allowed (new_cell i) (new_may_say enough i)));
  }

  says : (i : ℕ) → store_of after i ≡ new_cell i
  unfolding store_of
  says i = ap cell_in (s.cells i) ∙ cell_back (new_cell i)

  pub started_constants : (ρ : Subst) → Sat ρ (store_of after) ↔ Constants ρ
  started_constants ρ = (to, λ c. record { at = λ i. subst (Fits ρ i) (sym (says i)) (each c i) })
    where
      to : Sat ρ (store_of after) → Constants ρ
      to sat =
          let b : ρ 0 ≡ bool = fits_at sat (says 0) in
          let n : ρ 1 ≡ int = fits_at sat (says 1) in
          record { bool_is = b; int_is = n; to_int = fits_at sat (says 2) ∙ ap₂ ◌⇒◌ n n; to_bool = fits_at sat (says 3) ∙ ap₂ ◌⇒◌ n b }

      each : Constants ρ → (i : ℕ) → Fits ρ i (new_cell i)
      each c zero = c.bool_is
      each c (suc zero) = c.int_is
      each c (suc (suc zero)) = c.to_int ∙ sym (ap₂ ◌⇒◌ c.int_is c.int_is)
      each c (suc (suc (suc zero))) = c.to_bool ∙ sym (ap₂ ◌⇒◌ c.int_is c.bool_is)
      each c (suc (suc (suc (suc i)))) = tt
