-- A loop in search of the smallest of n nodes that a test finds: at k, what is left from k on is the whole answer.
use Rattle.std.specs.Prelude.{ℕ, suc, ◌+◌, ◌-◌, ◌≤◌, ◌<◌, ◌≡◌, Bool, true, false, None, Some}
use Rattle.std.proofs.Math.Path.{sym, ap}
use Rattle.std.proofs.Common.{◌∙◌, add-one}
use native.Mathlib.Omega.{arith}
use Rattle.acceptance.specs.Refusals.{first_from}
use Rattle.acceptance.specs.FirstFrom.{first_here, first_next}

pub record Searching (bad : ℕ → Bool) (n k : ℕ) : Type 0 where
  pub within : k ≤ n
  pub same : first_from bad (n - k) k ≡ first_from bad n 0

module _ {bad : ℕ → Bool} {n : ℕ} where
  pub search_starts : Searching bad n 0
  search_starts = record { within = omega arith; same = ap (λ count. first_from bad count 0) (omega arith) }

  pub search_goes_on : {k : ℕ} → Searching bad n k → k < n → bad k ≡ false → Searching bad n (k + 1)
  search_goes_on {k} s h e =
      let more : suc (n - suc k) ≡ n - k = omega arith in
      rw add-one (record { within = h; same = sym (first_next bad (n - suc k) k e) ∙ ap (λ count. first_from bad count k) more ∙ s.same })

  pub search_finds : {k : ℕ} → Searching bad n k → k < n → bad k ≡ true → first_from bad n 0 ≡ Some k
  search_finds {k} s h e =
      let more : suc (n - suc k) ≡ n - k = omega arith in
      sym s.same ∙ ap (λ count. first_from bad count k) (sym more) ∙ first_here bad (n - suc k) k e

  pub search_ends : {k : ℕ} → Searching bad n k → n ≤ k → first_from bad n 0 ≡ None
  unfolding first_from
  search_ends {k} s h =
      let left : n - k ≡ 0 = omega arith in
      sym s.same ∙ ap (λ count. first_from bad count k) left
