-- The first words of a slice are lent, and come back with other words.
use Rattle.std.specs.Prelude.{ℕ, zero, suc, ◌≤◌, ◌≡◌, refl, List, [], ◌∷◌, ◌++◌, length, take, drop}
use Rattle.std.proofs.Common.{◌∙◌, ap, arith, length-take-le}
use Rattle.std.proofs.Math.Seq.{length_front}
use Rattle.lent.specs.Cleared.{zeros, cleared}

-- What lies past the words that came back is as it was.
drop_past : (s : ℕ) (part store : List ℕ) → length part ≤ s → length part ≤ length store → drop s (part ++ drop (length part) store) ≡ drop s store
drop_past s [] store h k = refl
drop_past zero (p ∷ part) store h k = absurd (omega arith)
drop_past (suc s) (p ∷ part) [] h k = absurd (omega arith)
drop_past (suc s) (p ∷ part) (x ∷ store) h k = drop_past s part store (omega arith) (omega arith)

module _ (store : List ℕ) {m : ℕ} (fits : m ≤ length store) where
  pub length_lent : length (take m store) ≡ m
  length_lent = length-take-le m store fits

  module _ (part : List ℕ) (kept : length part ≡ length (take m store)) where
    length_same : length (part ++ drop m store) ≡ length store
    length_same = length_front store part m kept

    -- As many are lent again, or more.
    module _ {s : ℕ} (more : m ≤ s) (enough : s ≤ length store) where
      pub back_fits : s ≤ length (part ++ drop m store)
      back_fits = rw length_same enough

      pub length_back : length (take s (part ++ drop m store)) ≡ s
      length_back = length-take-le s (part ++ drop m store) back_fits

      -- They are cleared.
      pub back_cleared : {zeroed : List ℕ} → zeroed ≡ zeros (length (take s (part ++ drop m store))) → zeroed ++ drop s (part ++ drop m store) ≡ cleared s store
      back_cleared is =
          let same : length part ≡ m = kept ∙ length_lent in
          ap (λ xs. xs ++ drop s (part ++ drop m store)) (is ∙ ap zeros length_back)
          ∙ ap (λ rest. zeros s ++ rest) (rw same at (drop_past s part store (omega arith) (omega arith)))
