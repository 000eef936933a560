-- The cells of a solved table give its most general type, or it has none.
use Rattle.std.specs.Prelude.{ℕ, ◌+◌, ◌-◌, ◌≤◌, ◌<◌, ◌≡◌, refl, true, false, List, [], ◌∷◌, length, get_or, Option, ok_or, Result, Ok, Err, IsErrAnd}
use Rattle.std.proofs.Common.{◌∙◌, ap, arith}
use Rattle.std.proofs.Math.Path.{fun_ext}
use Rattle.std.proofs.Math.ListN.{get_or-eq_default}
use Rattle.language.specs.Ty.{Ty, bool, int, ◌⇒◌, Subst}
use Rattle.language.specs.Environment.{empty}
use Rattle.language.specs.Typing.{Has}
use Rattle.language.specs.Principal.{Principal}
use Rattle.language.specs.Unification.{Solves}
use Rattle.language.specs.WrittenForm.{words_of}
use Rattle.language.specs.Expression.{Exp}
use Rattle.table.specs.Node.{node_at}
use Rattle.table.specs.ExpressionOf.{exp_at}
use Rattle.equations.specs.Equations.{equations_below}
use Rattle.equations.proofs.TypedExactlySolvable.{typed_exactly_solvable, most_general_is_principal}
use Rattle.cells.specs.Interface.{Started, Unnumbered, GroundTested, TypeWritten, fits, over, CellWritten, Outcome}
use Rattle.cells.specs.Starting.{Constants, started_constants}
use Rattle.cells.specs.Cells.{Sat, Grounds}
use Rattle.cells.specs.Grounded.{grounded_satisfies, grounded_then_any}
use Rattle.cells.specs.Layout.{cells_in, store_of}
use Rattle.cells.specs.StoreLaws.{same_store}
use Rattle.cells.specs.declared.Clash.{Clash}
use Rattle.inference.specs.TableCells.{cell_words, NodesSolved, TreeRoom, unknowns}
use Rattle.inference.specs.OfFormula.{TypesFound, types, no_types, FormulaInfers, untyped, too_long, fitting}
use Rattle.inference.specs.declared.Untyped.{Untyped}
use Rattle.inference.specs.declared.Untyped.TheVariants.{NoType, OutTooShort}

-- ---- Unknowns and cells

-- The cells' valuation for a substitution of the unknowns.
with_constants : Subst → Subst
with_constants s i = get_or (bool ∷ int ∷ (int ⇒ int) ∷ (int ⇒ bool) ∷ []) i (s (i - 4))

constants_in_place : (s : Subst) → Constants (with_constants s)
unfolding with_constants
constants_in_place s = record { bool_is = refl; int_is = refl; to_int = refl; to_bool = refl }

unknowns_back : (s : Subst) → unknowns (with_constants s) ≡ s
unfolding with_constants
unknowns_back s = fun_ext (λ α.
    let past : 4 ≤ α + 4 = omega arith in
    let back : α + 4 - 4 ≡ α = omega arith in
    get_or-eq_default (bool ∷ int ∷ (int ⇒ int) ∷ (int ⇒ bool) ∷ []) (s (α + 4 - 4)) past ∙ ap s back)

-- ---- The types of a tree

module _ {words : List ℕ} {n : ℕ} {before new : List ℕ} (room : TreeRoom words n before) (started : Started before new) where
  abbrev formula : Exp
  formula = exp_at (node_at words) n 0

  -- A solution of the equations satisfies new cells.
  at_first : (s : Subst) → Sat (with_constants s) (store_of new)
  at_first s = (started_constants started (with_constants s)).1 (constants_in_place s)

  demanded : (s : Subst) → Solves s (equations_below (node_at words) n) → NodesSolved words n (with_constants s)
  demanded s h = rw (unknowns_back s) h

  untypable : ((s : Subst) → ¬ Solves s (equations_below (node_at words) n)) → (τ : Ty) → ¬ Has empty formula τ
  untypable none τ d = let (s, h) = (typed_exactly_solvable room.tree_in.closed).0 (τ, d) in none s h

  -- The equations clash.
  pub clash_found : {mem : List ℕ} {clash : Clash} {r : Result (Unit {0}) Untyped} → Outcome new mem (NodesSolved words n) (Err clash) → IsErrAnd r (λ e. e ≡ NoType) → TypesFound formula mem r
  clash_found {r = Ok u} o given = absurd given
  clash_found {r = Err e} o given = rw given (no_types (untypable (λ s h. o.says (with_constants s) (at_first s) (demanded s h))))

  module _ {mem : List ℕ} {u : Unit {0}} (o : Outcome new mem (NodesSolved words n) (Ok u)) where
    satisfies : (s : Subst) → Solves s (equations_below (node_at words) n) → Sat (with_constants s) (store_of mem)
    satisfies s h = (o.says.keeps (with_constants s)).0 (at_first s, demanded s h)

    grounded_principal : {γ : Subst} → Grounds γ (store_of mem) → Principal empty formula (γ 4)
    grounded_principal {γ} g = most_general_is_principal room.tree_in.closed (record {
      solves = ((o.says.keeps γ).1 (grounded_satisfies g)).1;
      most_general = λ s h. record { after = with_constants s; is = ap unknowns (grounded_then_any g (satisfies s h)) ∙ unknowns_back s };
    })

    -- Every cell evaluates, or a type would contain itself.
    pub grounded_found : {tested : List ℕ} {u : Unit {0}} → GroundTested mem tested true → TypesFound formula tested (Ok u)
    grounded_found {tested} g =
        let (γ, grounds) = g.says in
        let some = room.tree_in.closed.tree.root in
        let whole : length tested ≡ cell_words n = g.same.same_length ∙ o.same_length ∙ started.same_length ∙ room.whole in
        types {τ = γ 4} g.ready (omega arith) (rw (same_store g.same) (grounds.at 4)) (grounded_principal grounds)

    pub ungrounded_found : {tested : List ℕ} → GroundTested mem tested false → TypesFound formula tested (Err NoType)
    ungrounded_found g = no_types (untypable (λ s h. g.says (with_constants s) (satisfies s h)))

-- ---- The answer

module _ {e : Exp} {mem : List ℕ} where
  pub ready_to_write : {u : Unit {0}} → TypesFound e mem (Ok u) → Unnumbered mem × (4 < cells_in mem)
  ready_to_write (types ready inside evaluates principal) = (ready, inside)

  pub found_none : {out : List ℕ} {untyped_is : Untyped} {r : Result ℕ Untyped} → TypesFound e mem (Err untyped_is) → IsErrAnd r (λ e'. e' ≡ untyped_is) → FormulaInfers e out r out
  found_none {r = Ok count} found given = absurd given
  found_none {r = Err e'} (no_types none) given = untyped none (ap Err given) refl

  pub found_written : {u : Unit {0}} {out out' : List ℕ} {w : Option ℕ} → TypesFound e mem (Ok u) → CellWritten mem 4 out out' w → FormulaInfers e out (ok_or w OutTooShort) out'
  found_written {out = out} {out'} {w = w} (types {τ} ready inside evaluates principal) written = go (written.is τ evaluates)
    where
      go : TypeWritten (words_of τ) out out' w → FormulaInfers e out (ok_or w OutTooShort) out'
      go (fits enough is after) = fitting principal enough (ap (λ w. ok_or w OutTooShort) is) after
      go (over short is same) = too_long principal short (ap (λ w. ok_or w OutTooShort) is) same
