-- The refusals 1 to 4 of a table, in this order, each with the smallest place.
use Rattle.std.specs.Prelude.{ℕ, zero, suc, ◌+◌, ◌*◌, ◌%◌, Bool, false, not, cond, ◌&&◌, ◌||◌, List, [], ◌∷◌, eqb, ltb, length, get_or, Option, None, Some, is_some, Result, Ok, Err}
use Rattle.language.specs.Once.{once}
use Rattle.table.specs.Node.{Node, Nodes, field_a, field_b, field_c, child, word_at, node_at, count_of}
use Rattle.table.specs.Walk.{holds}
use Rattle.table.specs.Scope.{name_of, binder_of}
use Rattle.acceptance.specs.declared.Refusal.{Refusal}
use Rattle.acceptance.specs.declared.Refusal.TheVariants.{WrongCount, Misfit, Misplaced, Unbound}

-- ---- Code 1: the word count is 0, no multiple of 4, or above 2,048

abbrev pub wrong_count : ℕ → Bool
wrong_count l = eqb l 0 || not (eqb (l % 4) 0) || ltb 2048 l

-- Its place is 0.
abbrev pub miscount : ℕ → Option ℕ
miscount l = cond (wrong_count l) (Some 0) None

-- ---- Code 2: a node has an unknown kind or a field outside its rule

abbrev pub is_unused : ℕ → Bool
is_unused x = eqb x 0

abbrev pub is_name : ℕ → Bool
is_name x = ltb x 65536

-- A child's number is greater than its parent's and below the node count.
abbrev pub is_child : ℕ → ℕ → ℕ → Bool
is_child n k c = ltb k c && ltb c n

-- Kinds 0 to 9, each with the rule of its fields, at node k of n.
abbrev pub rules : ℕ → ℕ → List (ℕ → ℕ → ℕ → Bool)
rules n k =
    (λ a b c. is_unused a && is_unused b && is_unused c) ∷
    (λ a b c. ltb a 2 && is_unused b && is_unused c) ∷
    (λ a b c. is_unused b && is_unused c) ∷
    (λ a b c. ltb a 10 && is_unused b && is_unused c) ∷
    (λ a b c. is_name a && is_unused b && is_unused c) ∷
    (λ a b c. is_child n k a && is_child n k b && is_unused c) ∷
    (λ a b c. is_child n k a && is_child n k b && is_child n k c) ∷
    (λ a b c. is_name a && is_child n k b && is_unused c) ∷
    (λ a b c. is_name a && is_child n k b && is_child n k c) ∷
    (λ a b c. is_name a && is_child n k b && is_unused c) ∷ []

unfoldable pub fits_rule : ℕ → ℕ → ℕ → ℕ → ℕ → ℕ → Bool
fits_rule n k kind a b c = get_or (rules n k) kind (λ a b c. false) a b c

abbrev pub fits : List ℕ → ℕ → ℕ → Bool
fits words n k = fits_rule n k (word_at words (4 * k)) (word_at words (4 * k + 1)) (word_at words (4 * k + 2)) (word_at words (4 * k + 3))

-- ---- Code 3: a node other than 0 is not a child exactly once

-- In how many fields of a node k stands; the same number in two fields counts twice.
abbrev pub times_in : Node → ℕ → ℕ
times_in node k = once (holds k (child node field_a)) + once (holds k (child node field_b)) + once (holds k (child node field_c))

-- The same in all nodes below n.
unfoldable pub times_below : Nodes → ℕ → ℕ → ℕ
times_below nd zero k = 0
times_below nd (suc n) k = times_below nd n k + times_in (nd n) k

abbrev pub misplaced : Nodes → ℕ → ℕ → Bool
misplaced nd n k = not (eqb k 0) && not (eqb (times_below nd n k) 1)

-- ---- Code 4: a name has no binder

abbrev pub unbound : Nodes → ℕ → Bool
unbound nd k = is_some (name_of (nd k)) && not (is_some (binder_of nd k))

-- ---- All of them in order

-- The smallest of `count` nodes, from `at` on, that a test finds.
unfoldable pub first_from : (ℕ → Bool) → ℕ → ℕ → Option ℕ
first_from bad zero at = None
first_from bad (suc count) at = let later = first_from bad count (suc at) in cond (bad at) (Some at) later

-- The refusal of the place that is found.
abbrev pub refuse_at : (ℕ → Refusal) → Option ℕ → Result ℕ Refusal → Result ℕ Refusal
refuse_at refusal None otherwise = otherwise
refuse_at refusal (Some k) otherwise = Err (refusal k)

abbrev pub check_nodes : List ℕ → Nodes → ℕ → Result ℕ Refusal
check_nodes words nd n =
    refuse_at Misfit (first_from (λ k. not (fits words n k)) n 0)
    (refuse_at Misplaced (first_from (misplaced nd n) n 0)
    (refuse_at Unbound (first_from (unbound nd) n 0)
    (Ok n)))

unfoldable pub check_of : List ℕ → Result ℕ Refusal
check_of words = refuse_at (λ place. WrongCount) (miscount (length words)) (check_nodes words (node_at words) (count_of words))

-- ---- The numbers of the rules

abbrev pub refusal_code : Refusal → ℕ
refusal_code WrongCount = 1
refusal_code (Misfit k) = 2
refusal_code (Misplaced k) = 3
refusal_code (Unbound k) = 4

abbrev pub refusal_place : Refusal → ℕ
refusal_place WrongCount = 0
refusal_place (Misfit k) = k
refusal_place (Misplaced k) = k
refusal_place (Unbound k) = k

abbrev pub check_code : Result ℕ Refusal → ℕ
check_code (Ok n) = 0
check_code (Err refusal) = refusal_code refusal

-- The place of acceptance is the node count.
abbrev pub check_place : Result ℕ Refusal → ℕ
check_place (Ok n) = n
check_place (Err refusal) = refusal_place refusal
