-- The check answers each of its codes exactly in its case.
use Prim.Native.Nat.{ℕ, zero, suc, ◌+◌, ◌≤◌, ◌<◌}
use Rattle.std.proofs.Math.Path.{◌≡◌, refl, sym}
use Rattle.std.proofs.Common.{◌∙◌, ap, arith}
use Rattle.std.specs.Prelude.{◌↔◌, Bool, cond, List, length, Option, None, Some, Result, Ok, Err}
use Rattle.std.proofs.Math.Bool.{true, false}
use Rattle.std.proofs.Math.Decide.{ℕ_discrete}
use Rattle.table.specs.Node.{count_of}
use Rattle.acceptance.specs.Refusals.{wrong_count, first_from, refuse_at, check_of, refusal_code, refusal_place, check_code, check_place}
use Rattle.acceptance.specs.RefusedFor.{Smallest, FindsNone, breaks_rule, is_misplaced, is_unbound, RefusedFor, for_its_count, for_a_rule, for_a_parent, for_a_name}
use Rattle.acceptance.specs.Checked.{Checked}
use Rattle.acceptance.specs.Accepted.{accepted_is_checked, checked_is_accepted}
use Rattle.acceptance.specs.FirstFrom.{first_here, first_next, first_none, none_first}
use Rattle.acceptance.specs.declared.Refusal.{Refusal}
use Rattle.acceptance.specs.declared.Refusal.TheVariants.{WrongCount, Misfit, Misplaced, Unbound}

-- ---- The smallest node that a test finds

-- Of `count` nodes from `at` on.
record SmallestFrom (bad : ℕ → Bool) (count at k : ℕ) : Type 0 where
  low : at ≤ k
  high : k < at + count
  found : bad k ≡ true
  first : (j : ℕ) → at ≤ j → j < k → bad j ≡ false

module _ {bad : ℕ → Bool} where
  found_here : (count at : ℕ) {k : ℕ} → bad at ≡ true → at ≡ k → SmallestFrom bad (suc count) at k
  found_here count at is same = record { low = omega arith; high = omega arith; found = rw (← same) is; first = λ j l h. absurd (omega arith) }

  found_later : {count at k : ℕ} → bad at ≡ false → SmallestFrom bad count (suc at) k → SmallestFrom bad (suc count) at k
  found_later {at = at} {k = k} here s = record { low = omega (arith, s.low); high = omega (arith, s.high); found = s.found; first = λ j l h. go j l h (ℕ_discrete at j) }
    where
      go : (j : ℕ) → at ≤ j → j < k → Dec (at ≡ j) → bad j ≡ false
      go j l h (yes q) = rw (← q) here
      go j l h (no q) = s.first j (omega arith) h

  found_is_smallest : (count at : ℕ) {k : ℕ} → first_from bad count at ≡ Some k → SmallestFrom bad count at k
  unfolding first_from
  found_is_smallest zero at e = absurd (let z : ◌≡◌ {A = ℕ} 0 1 = cc in omega arith)
  found_is_smallest (suc count) at {k} e = go (bad at) refl (λ later. found_is_smallest count (suc at) later)
    where
      go : (b : Bool) → bad at ≡ b → (first_from bad count (suc at) ≡ Some k → SmallestFrom bad count (suc at) k) → SmallestFrom bad (suc count) at k
      go true here later =
          let both : Some at ≡ Some k = sym (first_here bad count at here) ∙ e in
          found_here count at here (cc)
      go false here later = found_later here (later (sym (first_next bad count at here) ∙ e))

  smallest_is_found : (count at : ℕ) {k : ℕ} → SmallestFrom bad count at k → first_from bad count at ≡ Some k
  smallest_is_found zero at s = absurd (omega (arith, s.low, s.high))
  smallest_is_found (suc count) at {k} s = go (ℕ_discrete at k) (λ later. smallest_is_found count (suc at) later)
    where
      go : Dec (at ≡ k) → (SmallestFrom bad count (suc at) k → first_from bad count (suc at) ≡ Some k) → first_from bad (suc count) at ≡ Some k
      go (yes q) later = first_here bad count at (rw q s.found) ∙ ap Some q
      go (no q) later =
          let low = s.low in
          let high = s.high in
          let rest : SmallestFrom bad count (suc at) k = record { low = omega arith; high = omega arith; found = s.found; first = λ j l h. s.first j (omega arith) h } in
          first_next bad count at (s.first at (omega arith) (omega arith)) ∙ later rest

  to_smallest : {n k : ℕ} → first_from bad n 0 ≡ Some k → Smallest bad n k
  to_smallest {n} e =
      let s = found_is_smallest n 0 e in
      record { inside = omega (arith, s.high); found = s.found; first = λ j h. s.first j (omega arith) h }

  from_smallest : {n k : ℕ} → Smallest bad n k → first_from bad n 0 ≡ Some k
  from_smallest {n} s = smallest_is_found n 0 (record { low = omega arith; high = omega (arith, s.inside); found = s.found; first = λ j l h. s.first j h })

  to_none : {n : ℕ} → first_from bad n 0 ≡ None → FindsNone bad n
  to_none {n} e = record { passed = λ k h. first_none bad n 0 e k (omega arith) (omega arith) }

  from_none : {n : ℕ} → FindsNone bad n → first_from bad n 0 ≡ None
  from_none {n} f = none_first bad n 0 (λ k l h. f.passed k (omega arith))

-- ---- The refusals in their order

-- The answer is a refusal with that code and that place.
record Refuses (answer : Result ℕ Refusal) (code place : ℕ) : Type 0 where
  refusal : Refusal
  is : answer ≡ Err refusal
  code_is : refusal_code refusal ≡ code
  place_is : refusal_place refusal ≡ place

refuses : {refusal : Refusal} → Refuses (Err refusal) (refusal_code refusal) (refusal_place refusal)
refuses {refusal} = record { refusal = refusal; is = refl; code_is = refl; place_is = refl }

module _ (words : List ℕ) where
  abbrev misfit : Option ℕ
  misfit = first_from (breaks_rule words) (count_of words) 0

  abbrev stray : Option ℕ
  stray = first_from (is_misplaced words) (count_of words) 0

  abbrev nameless : Option ℕ
  nameless = first_from (is_unbound words) (count_of words) 0

  abbrev answer_by : Bool → Option ℕ → Option ℕ → Option ℕ → Result ℕ Refusal
  answer_by wrong f₂ f₃ f₄ = refuse_at (λ place. WrongCount) (cond wrong (Some 0) None) (refuse_at Misfit f₂ (refuse_at Misplaced f₃ (refuse_at Unbound f₄ (Ok (count_of words)))))

  at_place : {code place c p : ℕ} → c ≡ code → p ≡ place → RefusedFor words c p → RefusedFor words code place
  at_place p q r = rw (← p, ← q) r

  at_refusal : {refusal refusal' : Refusal} → ◌≡◌ {A = Result ℕ Refusal} (Err refusal) (Err refusal') → RefusedFor words (refusal_code refusal) (refusal_place refusal) →
      RefusedFor words (refusal_code refusal') (refusal_place refusal')
  at_refusal {refusal} {refusal'} e r = let same : refusal ≡ refusal' = cc in rw (← same) r

  pub refused_for : {refusal : Refusal} → check_of words ≡ Err refusal → RefusedFor words (refusal_code refusal) (refusal_place refusal)
  unfolding check_of
  refused_for {refusal} is = go (wrong_count (length words)) misfit stray nameless refl refl refl refl is
    where
      go : (wrong : Bool) (f₂ f₃ f₄ : Option ℕ) → wrong_count (length words) ≡ wrong → misfit ≡ f₂ → stray ≡ f₃ → nameless ≡ f₄ →
          answer_by wrong f₂ f₃ f₄ ≡ Err refusal → RefusedFor words (refusal_code refusal) (refusal_place refusal)
      go true f₂ f₃ f₄ w e₂ e₃ e₄ a = at_refusal a (for_its_count w)
      go false (Some k) f₃ f₄ w e₂ e₃ e₄ a = at_refusal a (for_a_rule w (to_smallest e₂))
      go false None (Some k) f₄ w e₂ e₃ e₄ a = at_refusal a (for_a_parent w (to_none e₂) (to_smallest e₃))
      go false None None (Some k) w e₂ e₃ e₄ a = at_refusal a (for_a_name w (to_none e₂) (to_none e₃) (to_smallest e₄))
      go false None None None w e₂ e₃ e₄ a = absurd (let z : ◌≡◌ {A = ℕ} 0 1 = cc in omega arith)

  refused_so : {code place : ℕ} → RefusedFor words code place → Refuses (check_of words) code place
  unfolding check_of
  refused_so (for_its_count w) = rw w refuses
  refused_so (for_a_rule w s) = rw (w, from_smallest s) refuses
  refused_so (for_a_parent w f s) = rw (w, from_none f, from_smallest s) refuses
  refused_so (for_a_name w f g s) = rw (w, from_none f, from_none g, from_smallest s) refuses

  -- ---- As numbers

  abbrev Numbers : Result ℕ Refusal → ℕ → ℕ → Type 0
  Numbers answer code place = (check_code answer ≡ code) × (check_place answer ≡ place)

  no_refusal_is_0 : {place : ℕ} → ¬ RefusedFor words 0 place
  no_refusal_is_0 r = elim r [ ]

  pub code_0_exactly : (n : ℕ) → Numbers (check_of words) 0 n ↔ Checked words n
  code_0_exactly n = (go (check_of words) refl, λ c. rw (checked_is_accepted words n c) (refl, refl))
    where
      go : (answer : Result ℕ Refusal) → check_of words ≡ answer → Numbers answer 0 n → Checked words n
      go (Ok m) is (zero_code, same) = accepted_is_checked words n (is ∙ ap Ok same)
      go (Err refusal) is (zero_code, same) = absurd (no_refusal_is_0 (at_place zero_code refl (refused_for is)))

  pub codes_1_to_4_exactly : (code place : ℕ) → 0 < code → Numbers (check_of words) code place ↔ RefusedFor words code place
  codes_1_to_4_exactly code place some_code = (go (check_of words) refl, λ r. let refused = refused_so r in rw refused.is (refused.code_is, refused.place_is))
    where
      go : (answer : Result ℕ Refusal) → check_of words ≡ answer → Numbers answer code place → RefusedFor words code place
      go (Ok m) is (c, p) = absurd (omega arith)
      go (Err refusal) is (c, p) = at_place c p (refused_for is)
