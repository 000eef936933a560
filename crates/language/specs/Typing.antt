-- The typing rules of L2 (lecture notes, section 9, Definition 14; formula sheet, section 5, whose rule names these are).
use Rattle.std.specs.Prelude.{◌≡◌}
use Rattle.language.specs.Expression.{Name, Operator, plus, minus, times, divide, modulo, less, greater, at_most, at_least, equal, Constant, unit_element, boolean, integer, operator, Exp, constant, name, app, if_then_else, lambda, let_in, rec}
use Rattle.language.specs.Ty.{Ty, unit, bool, int, ◌⇒◌, Subst, apply}
use Rattle.language.specs.Environment.{Env, empty, bind, Find}

-- (AOP) and (ROP): what an operator gives, after two integers.
abbrev pub gives : Operator → Ty
gives plus = int
gives minus = int
gives times = int
gives divide = int
gives modulo = int
gives less = bool
gives greater = bool
gives at_most = bool
gives at_least = bool
gives equal = bool

-- c :: τ, by (UNIT), (BOOL), (INT), (AOP) and (ROP). Each constant has one type.
abbrev pub type_of : Constant → Ty
type_of unit_element = unit
type_of (boolean b) = bool
type_of (integer n) = int
type_of (operator o) = int ⇒ int ⇒ gives o

-- Γ ▷ e :: τ
pub data Has : Env Ty → Exp → Ty → Type 0 where
  CONST : {Γ : Env Ty} {c : Constant} {τ : Ty} → type_of c ≡ τ → Has Γ (constant c) τ
  ID : {Γ Δ : Env Ty} {x : Name} {τ : Ty} → Find Γ x τ Δ → Has Γ (name x) τ
  APP : {Γ : Env Ty} {e₁ e₂ : Exp} {τ τ' : Ty} → Has Γ e₁ (τ ⇒ τ') → Has Γ e₂ τ → Has Γ (app e₁ e₂) τ'
  COND : {Γ : Env Ty} {e₀ e₁ e₂ : Exp} {τ : Ty} → Has Γ e₀ bool → Has Γ e₁ τ → Has Γ e₂ τ → Has Γ (if_then_else e₀ e₁ e₂) τ
  LET : {Γ : Env Ty} {x : Name} {e₁ e₂ : Exp} {τ τ' : Ty} → Has Γ e₁ τ → Has (bind Γ x τ) e₂ τ' → Has Γ (let_in x e₁ e₂) τ'
  ABSTR' : {Γ : Env Ty} {x : Name} {e : Exp} {τ τ' : Ty} → Has (bind Γ x τ) e τ' → Has Γ (lambda x e) (τ ⇒ τ')
  REC' : {Γ : Env Ty} {x : Name} {e : Exp} {τ : Ty} → Has (bind Γ x τ) e τ → Has Γ (rec x e) τ

-- Definition 24: `apply_env s Γ` is Γ s, each entry id : τ replaced by id : τ s.
unfoldable pub apply_env : Subst → Env Ty → Env Ty
apply_env s empty = empty
apply_env s (bind Γ x τ) = bind (apply_env s Γ) x (apply s τ)
