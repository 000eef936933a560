-- What inference makes of a formula that stands as a tree in some words, whatever table or work slice these are: nothing here speaks of the
-- check of a table.
use Rattle.std.specs.Prelude.{ℕ, ◌≤◌, ◌<◌, ◌≡◌, List, length, Result, Ok, Err}
use Rattle.language.specs.Expression.{Exp}
use Rattle.language.specs.Ty.{Ty}
use Rattle.language.specs.Environment.{empty}
use Rattle.language.specs.Typing.{Has}
use Rattle.language.specs.Principal.{Principal}
use Rattle.language.specs.WrittenForm.{words_of}
use Rattle.cells.specs.Cells.{Ev}
use Rattle.cells.specs.Layout.{store_of, cells_in}
use Rattle.cells.specs.Interface.{Unnumbered}
use Rattle.inference.specs.Inference.{with_type}
use Rattle.inference.specs.declared.Untyped.{Untyped}
use Rattle.inference.specs.declared.Untyped.TheVariants.{NoType, OutTooShort}

-- Cell 4 evaluates to the formula's most general type, or the formula has no type.
pub data TypesFound (e : Exp) (mem : List ℕ) : Result (Unit {0}) Untyped → Type 0 where
  types : {τ : Ty} → Unnumbered mem → 4 < cells_in mem → Ev (store_of mem) 4 τ → Principal empty e τ → {u : Unit {0}} → TypesFound e mem (Ok u)
  no_types : ((τ : Ty) → ¬ Has empty e τ) → TypesFound e mem (Err NoType)

-- The answer, and the out words before and after.
pub data FormulaInfers (e : Exp) (out : List ℕ) (answer : Result ℕ Untyped) (out' : List ℕ) : Type 0 where
  untyped : ((τ : Ty) → ¬ Has empty e τ) → answer ≡ Err NoType → out' ≡ out → FormulaInfers e out answer out'
  too_long : {τ : Ty} → Principal empty e τ → length out < length (words_of τ) → answer ≡ Err OutTooShort → out' ≡ out → FormulaInfers e out answer out'
  fitting : {τ : Ty} → Principal empty e τ → length (words_of τ) ≤ length out → answer ≡ Ok (length (words_of τ)) → out' ≡ with_type (words_of τ) out → FormulaInfers e out answer out'
