-- The place of inference's answer is the node that the rules say: codes 2 to 4 name a node of the table, which has at most 512, and the
-- place of all other refusals is 0.
use Rattle.std.specs.Prelude.{ℕ, ◌≤◌, ◌<◌, ◌≡◌, refl, ◌⊎◌, ◌≢◌, List}
use Rattle.std.proofs.Common.{inl, inr, ⊎_elim, arith}
use Rattle.std.proofs.Math.Decide.{ℕ_discrete, dec_lt}
use Rattle.table.specs.Node.{count_of}
use Rattle.acceptance.proofs.RefusedPlaces.{RefusedPlace, refused_place}
use Rattle.inference.specs.Inference.{code_of, place_of, After, Infers, turned, work_short, no_type, out_short, typed}

-- What a code and its place say, in a table of n nodes.
pub record InferredPlace (n code place : ℕ) : Type 0 where
  pub at_most_7 : code ≤ 7
  pub place_0 : (code ≡ 1) ⊎ (5 ≤ code) → place ≡ 0
  pub place_is_node : 2 ≤ code → code ≤ 4 → (place < n) × (n ≤ 512)

acceptance : {n place : ℕ} → InferredPlace n 0 place
acceptance = record { at_most_7 = omega arith; place_0 = ⊎_elim (λ one. absurd (omega arith)) (λ more. absurd (omega arith)); place_is_node = λ low high. absurd (omega arith) }

of_the_check : {n code place : ℕ} → RefusedPlace n code place → InferredPlace n code place
of_the_check refused =
    let (first, last) = refused.code_1_to_4 in
    record {
      at_most_7 = omega arith;
      place_0 = ⊎_elim refused.place_0_of_code_1 (λ more. absurd (omega arith));
      place_is_node = λ low high. refused.place_is_node low;
    }

of_its_own : {n code : ℕ} → 5 ≤ code → code ≤ 7 → InferredPlace n code 0
of_its_own first last = record { at_most_7 = last; place_0 = λ which. refl; place_is_node = λ low high. absurd (omega arith) }

pub inferred_place : {words work out : List ℕ} {a : After} → Infers words work out a → InferredPlace (count_of words) (code_of a.answer) (place_of a.answer)
inferred_place {words} (turned v is) = rw is (of_the_check (refused_place words v))
inferred_place (work_short v short is) = rw is (of_its_own (omega arith) (omega arith))
inferred_place (no_type v enough untyped is) = rw is (of_its_own (omega arith) (omega arith))
inferred_place (out_short v enough p short is) = rw is (of_its_own (omega arith) (omega arith))
inferred_place (typed v enough p fits is) = rw is acceptance

small_place : {n code place : ℕ} → InferredPlace n code place → code ≢ 0 → place < 512
small_place {code = code} {place = place} inferred refused = go (ℕ_discrete code 1) (dec_lt 4 code)
  where
    go : Dec (code ≡ 1) → Dec (4 < code) → place < 512
    go (yes one) own = omega (arith, inferred.place_0 (inl one))
    go (no other) (yes own) = omega (arith, inferred.place_0 (inr own))
    go (no other) (no check) = let node = inferred.place_is_node (omega arith) (omega arith) in omega arith

-- So no place but the count of type words is 512 or more.
pub place_below_512 : {words work out : List ℕ} {a : After} → Infers words work out a → code_of a.answer ≢ 0 → place_of a.answer < 512
place_below_512 i = small_place (inferred_place i)
