-- What is proved of L2, in one place. Each promise is restated here over the definitions alone; the file that proves it is the one that
-- its proof cites.
use Rattle.std.specs.Prelude.{◌<◌, ◌≡◌, ◌↔◌, ◌⊎◌, true, List, ℤ, pos, nat_abs, ◌+ℤ◌, ◌*ℤ◌}
use Rattle.std.specs.Int.Signed.{non_neg}
use Rattle.language.specs.Expression.{Name, Operator, divide, modulo, integer, Exp, constant, Value, Free, Closed}
use Rattle.language.specs.Integers.{number, in_range, meaning}
use Rattle.language.specs.Substitution.{sub}
use Rattle.language.specs.FinalSubstitution.{FinalSub}
use Rattle.language.specs.SmallStep.{Result, next, Step, NoStep, Stuck, Steps}
use Rattle.language.specs.Move.{move, steps, value, stuck}
use Rattle.language.specs.AllInRange.{AllInRange}
use Rattle.language.specs.Ty.{Ty, Subst, apply, Instance}
use Rattle.language.specs.Environment.{Env, empty}
use Rattle.language.specs.Typing.{Has, apply_env}
use Rattle.language.specs.Principal.{Principal}
use Rattle.language.specs.WrittenForm.{words_of, Renamed}
use Rattle.language.specs.Unification.{Equation, Right, unify}
use Rattle.language.proofs.IntegerLaws as IntegerLaws
use Rattle.language.proofs.MoveDecides as MoveDecides
use Rattle.language.proofs.Determinism as Determinism
use Rattle.language.proofs.ClosedSteps as ClosedSteps
use Rattle.language.proofs.NaiveIsFinal as NaiveIsFinal
use Rattle.language.proofs.RangeSteps as RangeSteps
use Rattle.language.proofs.TypingLaws as TypingLaws
use Rattle.language.proofs.Safety as Safety
use Rattle.language.proofs.WrittenFormLaws as WrittenFormLaws
use Rattle.language.proofs.UnificationCorrect as UnificationCorrect

-- ---- Small steps

-- Lemma 1 and 3: values are finished.
values_do_not_step : {v : Exp} → Value v → NoStep v
values_do_not_step = Determinism.values_do_not_step

-- Satz 1 and 2: each expression has at most one small step.
steps_are_deterministic : {e : Exp} {r r' : Result} → Step e r → Step e r' → r ≡ r'
steps_are_deterministic = Determinism.steps_are_deterministic

-- Lemma 4: a step brings no new free names.
step_frees_nothing : {e e' : Exp} → Step e (next e') → (y : Name) → Free y e' → Free y e
step_frees_nothing = ClosedSteps.step_frees_nothing

-- So a closed expression stays closed.
steps_stay_closed : {e e' : Exp} → Steps e e' → Closed e → Closed e'
steps_stay_closed = ClosedSteps.steps_stay_closed

-- Remark 3 after Definition 5: putting in something closed, the naive substitution is the final one.
naive_is_final : (x : Name) (s e : Exp) → Closed s → FinalSub x s e (sub x s e)
naive_is_final = NaiveIsFinal.naive_is_final

-- `move` tells which of the three cases an expression is in, and computes its step.
move_decides_steps : (e : Exp) (r : Result) → (move e ≡ steps r) ↔ Step e r
move_decides_steps e r = (MoveDecides.move_is_step e r, MoveDecides.step_is_move)

move_decides_values : (e : Exp) → (move e ≡ value) ↔ Value e
move_decides_values e = (MoveDecides.move_is_value e, MoveDecides.value_is_move)

move_decides_stuck : (e : Exp) → (move e ≡ stuck) ↔ Stuck e
move_decides_stuck e = (MoveDecides.move_is_stuck e, MoveDecides.stuck_is_move)

-- dividend = quotient × divisor + mod, where mod is smaller than the divisor and 0 or of the dividend's sign.
division_and_mod : (m n : ℤ) {q r : ℤ} → meaning divide m n ≡ number q → meaning modulo m n ≡ number r →
    (q *ℤ n +ℤ r ≡ m) × (nat_abs r < nat_abs n) × ((r ≡ pos 0) ⊎ (non_neg r ≡ non_neg m))
division_and_mod = IntegerLaws.division_and_mod

-- Numbers that are computed from numbers in range are in range.
meaning_in_range : (o : Operator) (m n : ℤ) {z : ℤ} → in_range m ≡ true → in_range n ≡ true → meaning o m n ≡ number z → in_range z ≡ true
meaning_in_range = IntegerLaws.meaning_in_range

-- So the integers of an expression stay in range: if all that stand in it are, the integer that it comes to is.
integers_stay_in_range : {e e' : Exp} → Steps e e' → AllInRange e → AllInRange e'
integers_stay_in_range = RangeSteps.steps_stay_in_range

computed_integer_in_range : {e : Exp} {n : ℤ} → Steps e (constant (integer n)) → AllInRange e → in_range n ≡ true
computed_integer_in_range = RangeSteps.steps_stay_in_range

-- ---- Types

-- An instance of a typing is a typing.
specialised : (s : Subst) {Γ : Env Ty} {e : Exp} {τ : Ty} → Has Γ e τ → Has (apply_env s Γ) e (apply s τ)
specialised = TypingLaws.specialised

-- Satz 7, Satz 8 and Satz 9, for closed expressions.
preservation : {e e' : Exp} {τ : Ty} → Has empty e τ → Step e (next e') → Has empty e' τ
preservation = Safety.preservation

progress : {e : Exp} {τ : Ty} → Has empty e τ → Value e ⊎ ((r : Result) × Step e r)
progress = Safety.progress

safety : {e e' : Exp} {τ : Ty} → Has empty e τ → Steps e e' → ¬ Stuck e'
safety = Safety.safety

-- ---- The written form

-- Two types have the same words exactly if they differ by a renaming of variables, exactly if each is an instance of the other.
same_words_exactly_renamed : (τ τ' : Ty) → (words_of τ ≡ words_of τ') ↔ Renamed τ τ'
same_words_exactly_renamed = WrittenFormLaws.same_words_exactly_renamed

same_words_exactly_instances : (τ τ' : Ty) → (words_of τ ≡ words_of τ') ↔ (Instance τ τ' × Instance τ' τ)
same_words_exactly_instances = WrittenFormLaws.same_words_exactly_instances

-- So the words of a most general type are determined.
principal_same_words : {Γ : Env Ty} {e : Exp} {τ τ' : Ty} → Principal Γ e τ → Principal Γ e τ' → words_of τ ≡ words_of τ'
principal_same_words = WrittenFormLaws.principal_same_words

-- ---- Unification

-- Satz 11: `unify` answers a most general solution, or that there is none and then there is none.
unify_right : (E : List Equation) → Right E (unify E)
unify_right = UnificationCorrect.unify_right
