-- An answer for each way in which a call leaves the lent slices, computed by the textbook's unification: the answer, and the words of both
-- slices afterwards.
use Rattle.std.specs.Prelude.{ℕ, ◌≡◌, refl, List, [], ◌∷◌, replicate, Ok, Err}
use Rattle.language.specs.WrittenForm.{is_among, appearing, place_in, spell, words_of}
use Rattle.table.specs.Node.{node_of, node_at}
use Rattle.acceptance.specs.Refusals.{fits_rule, times_below, first_from, check_of}
use Rattle.equations.specs.Inferred.{inferred}
use Rattle.inference.specs.Inference.{After, leaves}
use Rattle.inference.specs.Textbook.{textbook}
use Rattle.acceptance.specs.declared.Refusal.TheVariants.{Unbound}
use Rattle.inference.specs.declared.Untyped.TheVariants.{Refused, WorkTooShort, NoType, OutTooShort}

-- The answer with so many words of work, all 9, and so many of out, all 7. To unfold it is to unfold all that it computes with.
unfoldable answer : List ℕ → ℕ → ℕ → After
unfolding textbook check_of fits_rule times_below first_from inferred node_at node_of words_of spell appearing place_in is_among
answer words work out = textbook words (replicate work 9) (replicate out 7)

-- P2: fun x -> x
abbrev p2 : List ℕ
p2 = 7 ∷ 0 ∷ 1 ∷ 0 ∷ 4 ∷ 0 ∷ 0 ∷ 0 ∷ []

p2_answer : answer p2 64 4 ≡ leaves (Ok 3) (replicate 64 0) (4 ∷ 16 ∷ 16 ∷ 7 ∷ [])
unfolding answer
p2_answer = refl

p2_out_short : answer p2 64 2 ≡ leaves (Err OutTooShort) (replicate 64 0) (replicate 2 7)
unfolding answer
p2_out_short = refl

p2_work_short : answer p2 63 4 ≡ leaves (Err WorkTooShort) (replicate 63 9) (replicate 4 7)
unfolding answer
p2_work_short = refl

-- P4: fun x -> x x
p4_answer : answer (7 ∷ 0 ∷ 1 ∷ 0 ∷ 5 ∷ 2 ∷ 3 ∷ 0 ∷ 4 ∷ 0 ∷ 0 ∷ 0 ∷ 4 ∷ 0 ∷ 0 ∷ 0 ∷ []) 112 4 ≡ leaves (Err NoType) (replicate 112 0) (replicate 4 7)
unfolding answer
p4_answer = refl

-- P12: a name alone has no binder.
p12_answer : answer (4 ∷ 0 ∷ 0 ∷ 0 ∷ []) 40 4 ≡ leaves (Err (Refused (Unbound 0))) (replicate 40 9) (replicate 4 7)
unfolding answer
p12_answer = refl
