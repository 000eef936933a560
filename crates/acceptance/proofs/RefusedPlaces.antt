-- The place of a refusal: 0 for code 1, else a node of the table, of which there are at most 512.
use Rattle.std.specs.Prelude.{ℕ, ◌≤◌, ◌<◌, ◌≡◌, refl, false, List, length, Err}
use Rattle.std.proofs.Math.Decide.{ℕ_discrete}
use Rattle.std.proofs.Common.{arith}
use Rattle.table.specs.Node.{count_of}
use Rattle.acceptance.specs.Refusals.{wrong_count, check_of, refusal_code, refusal_place}
use Rattle.acceptance.specs.RefusedFor.{RefusedFor, for_its_count, for_a_rule, for_a_parent, for_a_name}
use Rattle.acceptance.proofs.RefusalsExactly.{refused_for}
use Rattle.acceptance.specs.Accepted.{right_count}
use Rattle.acceptance.specs.declared.Refusal.{Refusal}

-- What a code of the check and its place say, in a table of n nodes.
pub record RefusedPlace (n code place : ℕ) : Type 0 where
  pub code_1_to_4 : (1 ≤ code) × (code ≤ 4)
  pub place_0_of_code_1 : code ≡ 1 → place ≡ 0
  pub place_is_node : 2 ≤ code → (place < n) × (n ≤ 512)

wrong_length_lem : {n : ℕ} → RefusedPlace n 1 0
wrong_length_lem = record { code_1_to_4 = omega arith; place_0_of_code_1 = λ one. refl; place_is_node = λ second. absurd (omega arith) }

at_node : {n code place : ℕ} → 2 ≤ code → code ≤ 4 → place < n → n ≤ 512 → RefusedPlace n code place
at_node low high below few = record { code_1_to_4 = omega arith; place_0_of_code_1 = λ one. absurd (omega arith); place_is_node = λ second. (below, few) }

pub place_below_512 : {n code place : ℕ} → RefusedPlace n code place → place < 512
place_below_512 {code = code} {place = place} refused = go (ℕ_discrete code 1)
  where
    go : Dec (code ≡ 1) → place < 512
    go (yes one) = omega (arith, refused.place_0_of_code_1 one)
    go (no more) = let node = refused.place_is_node (omega (arith, refused.code_1_to_4)) in omega arith

pub refused_place : (words : List ℕ) {refusal : Refusal} → check_of words ≡ Err refusal → RefusedPlace (count_of words) (refusal_code refusal) (refusal_place refusal)
refused_place words e = go (refused_for words e)
  where
    few : wrong_count (length words) ≡ false → count_of words ≤ 512
    few right = (right_count (length words) right).2

    go : {code place : ℕ} → RefusedFor words code place → RefusedPlace (count_of words) code place
    go (for_its_count wrong) = wrong_length_lem
    go (for_a_rule right found) = at_node (omega arith) (omega arith) found.inside (few right)
    go (for_a_parent right fitting found) = at_node (omega arith) (omega arith) found.inside (few right)
    go (for_a_name right fitting placed found) = at_node (omega arith) (omega arith) found.inside (few right)
