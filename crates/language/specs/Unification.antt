-- Unification (lecture notes, section 10.4) on lists of equations, and what a solution is (Definitions 19 to 23).
use Rattle.std.specs.Prelude.{ℕ, zero, suc, ◌+◌, ◌≡◌, Bool, true, false, cond, ◌||◌, List, [], ◌∷◌, ◌++◌, length, eqb}
use Rattle.language.specs.Ty.{Ty, unit, bool, int, ◌⇒◌, var, Subst, apply, compose, identity, MoreGeneral}

-- ---- Equations and their solutions

-- Definition 19: τ₁ = τ₂
infix 50 ◌≐◌
pub data Equation : Type 0 where
  ◌≐◌ : Ty → Ty → Equation

-- Definition 20: s is a solution of E if both sides of each equation become equal under it.
pub data Solves (s : Subst) : List Equation → Type 0 where
  none_left : Solves s []
  also : {τ₁ τ₂ : Ty} {E : List Equation} → apply s τ₁ ≡ apply s τ₂ → Solves s E → Solves s ((τ₁ ≐ τ₂) ∷ E)

-- Definition 22: a most general solution.
pub record MostGeneralSolution (E : List Equation) (s : Subst) : Type 0 where
  pub solves : Solves s E
  pub most_general : (s' : Subst) → Solves s' E → MoreGeneral s s'

-- ---- Variables and substitutions on equations

-- Definition 23: var(τ) and var(E), each variable as often as it occurs.
unfoldable pub vars : Ty → List ℕ
vars unit = []
vars bool = []
vars int = []
vars (τ₁ ⇒ τ₂) = vars τ₁ ++ vars τ₂
vars (var α) = α ∷ []

unfoldable pub vars_all : List Equation → List ℕ
vars_all [] = []
vars_all ((τ₁ ≐ τ₂) ∷ E) = vars τ₁ ++ (vars τ₂ ++ vars_all E)

-- α ∈ var(τ)
unfoldable pub occurs : ℕ → Ty → Bool
occurs α unit = false
occurs α bool = false
occurs α int = false
occurs α (τ₁ ⇒ τ₂) = occurs α τ₁ || occurs α τ₂
occurs α (var β) = eqb α β

-- `single α τ` is [τ/α].
abbrev pub single : ℕ → Ty → Subst
single α τ β = cond (eqb α β) τ (var β)

-- `apply_all s E` is E s.
unfoldable pub apply_all : Subst → List Equation → List Equation
apply_all s [] = []
apply_all s ((τ₁ ≐ τ₂) ∷ E) = (apply s τ₁ ≐ apply s τ₂) ∷ apply_all s E

-- ---- The answer

-- "als Ergebnis eine Substitution s", or "nicht lösbar"
pub data Unified : Type 0 where
  solution : Subst → Unified
  unsolvable : Unified

-- What a right answer is (Satz 11): a most general solution, or that there is none.
abbrev pub Right : List Equation → Unified → Type 0
Right E (solution s) = MostGeneralSolution E s
Right E unsolvable = (s : Subst) → ¬ Solves s E

-- ---- The rules

-- (EMPTY)   unify(∅) = []
-- (TRIV)    unify({τ = τ} ∪ E) = unify(E)
-- (ARROW)   unify({τ₁ → τ₂ = τ₁' → τ₂'} ∪ E) = unify({τ₁ = τ₁', τ₂ = τ₂'} ∪ E)
-- (VAR)     unify({α = τ} ∪ E) = unify({τ = α} ∪ E) = [τ/α] ∘ s, if s = unify(E[τ/α]) and α does not occur in τ;
--           "nicht lösbar", if α occurs in τ or unify(E[τ/α]) = "nicht lösbar"
-- (STRUCT)  unify({τ₁ = τ₂} ∪ E) = "nicht lösbar" in all other cases

-- Which rule the first equation falls under.
pub data Case : Type 0 where
  trivial : Case
  parts : Equation → Equation → Case
  variable : ℕ → Ty → Case
  clash : Case

-- The order of the rules plays no part, so (TRIV) is used for base types and variables only: equal arrows come apart by (ARROW).
unfoldable pub case_of : Ty → Ty → Case
case_of unit unit = trivial
case_of bool bool = trivial
case_of int int = trivial
case_of (var α) (var β) = cond (eqb α β) trivial (variable α (var β))
case_of (τ₁ ⇒ τ₂) (τ₁' ⇒ τ₂') = parts (τ₁ ≐ τ₁') (τ₂ ≐ τ₂')
case_of (var α) unit = variable α unit
case_of (var α) bool = variable α bool
case_of (var α) int = variable α int
case_of (var α) (τ₁ ⇒ τ₂) = variable α (τ₁ ⇒ τ₂)
case_of unit (var α) = variable α unit
case_of bool (var α) = variable α bool
case_of int (var α) = variable α int
case_of (τ₁ ⇒ τ₂) (var α) = variable α (τ₁ ⇒ τ₂)
case_of unit bool = clash
case_of unit int = clash
case_of unit (τ₁ ⇒ τ₂) = clash
case_of bool unit = clash
case_of bool int = clash
case_of bool (τ₁ ⇒ τ₂) = clash
case_of int unit = clash
case_of int bool = clash
case_of int (τ₁ ⇒ τ₂) = clash
case_of (τ₁ ⇒ τ₂) unit = clash
case_of (τ₁ ⇒ τ₂) bool = clash
case_of (τ₁ ⇒ τ₂) int = clash

-- [τ/α] ∘ s, or "nicht lösbar" if that is what the rest gives.
abbrev pub after : Subst → Unified → Unified
after s₁ (solution s₂) = solution (compose s₁ s₂)
after s₁ unsolvable = unsolvable

-- The two cases of (VAR), by whether α ∈ var(τ).
abbrev pub eliminate : Bool → ℕ → Ty → List Equation → (List Equation → Unified) → Unified
eliminate true α τ E unify_fewer = unsolvable
eliminate false α τ E unify_fewer = after (single α τ) (unify_fewer (apply_all (single α τ) E))

-- The rules for a first equation. `unify_shorter` and `unify_fewer` are unify on a shorter list and on one of fewer variables.
abbrev pub by_case : Case → List Equation → (List Equation → Unified) → (List Equation → Unified) → Unified
by_case trivial E unify_shorter unify_fewer = unify_shorter E  -- (TRIV)
by_case (parts e₁ e₂) E unify_shorter unify_fewer = unify_shorter (e₁ ∷ e₂ ∷ E)  -- (ARROW)
by_case (variable α τ) E unify_shorter unify_fewer = eliminate (occurs α τ) α τ E unify_fewer  -- (VAR)
by_case clash E unify_shorter unify_fewer = unsolvable  -- (STRUCT)

abbrev pub rules : List Equation → (List Equation → Unified) → (List Equation → Unified) → Unified
rules [] unify_shorter unify_fewer = solution identity  -- (EMPTY)
rules ((τ₁ ≐ τ₂) ∷ E) unify_shorter unify_fewer = by_case (case_of τ₁ τ₂) E unify_shorter unify_fewer

-- ---- The recursion

-- "Gesamtlänge": the sum of the lengths of all equations, the sign = counted.
unfoldable pub size : Ty → ℕ
size unit = 1
size bool = 1
size int = 1
size (τ₁ ⇒ τ₂) = suc (size τ₁ + size τ₂)
size (var α) = 1

unfoldable pub size_all : List Equation → ℕ
size_all [] = 0
size_all ((τ₁ ≐ τ₂) ∷ E) = suc (size τ₁ + size τ₂ + size_all E)

-- unify with the two counts of the notes' proof that it ends: room for n variables, and a length below m. (VAR) takes one from n and sets m
-- anew, (TRIV) and (ARROW) take one from m. `unify` never gets to an answer that is given for want of room.
unfoldable pub unify_within : ℕ → ℕ → List Equation → Unified
unify_within zero zero E = unsolvable
unify_within (suc n) zero E = unsolvable
unify_within zero (suc m) E = rules E (λ E'. unify_within zero m E') (λ E'. unsolvable)
unify_within (suc n) (suc m) E = rules E (λ E'. unify_within (suc n) m E') (λ E'. unify_within n (suc (size_all E')) E')

-- To unfold `unify` is to unfold all that it computes with.
unfoldable pub unify : List Equation → Unified
unfolding unify_within vars vars_all occurs apply apply_all case_of size size_all
unify E = unify_within (length (vars_all E)) (suc (size_all E)) E
