-- The examples of the lecture notes on unification (section 10.3 and 10.4), computed.
use Rattle.std.specs.Prelude.{◌≡◌, refl, List, [], ◌∷◌}
use Rattle.language.specs.Ty.{Ty, bool, int, ◌⇒◌, var, apply}
use Rattle.language.specs.Unification.{◌≐◌, Unified, solution, unsolvable, unify}

abbrev α : Ty
α = var 0

abbrev β : Ty
β = var 1

-- What the answer makes of a list of types; nothing where there is none.
made : Unified → List Ty → List Ty
made (solution s) [] = []
made (solution s) (τ ∷ l) = apply s τ ∷ made (solution s) l
made unsolvable l = []

-- Beispiel 40: [int/α, int/β]
example_40 : made (unify ((α ⇒ int ≐ β ⇒ α) ∷ [])) (α ∷ β ∷ []) ≡ int ∷ int ∷ []
unfolding unify made
example_40 = refl

-- Beispiel 39: [β/α]
example_39 : made (unify ((α ⇒ β ≐ β ⇒ α) ∷ [])) (α ∷ β ∷ []) ≡ β ∷ β ∷ []
unfolding unify made
example_39 = refl

-- The two without a solution after Beispiel 39
int_is_not_bool : unify ((int ≐ bool) ∷ []) ≡ unsolvable
unfolding unify
int_is_not_bool = refl

no_infinite_type : unify ((α ≐ α ⇒ int) ∷ []) ≡ unsolvable
unfolding unify
no_infinite_type = refl
