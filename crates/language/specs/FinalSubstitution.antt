-- The final substitution (lecture notes, Definition 5, with section 6.2 for rec). It leaves the new name of a binder open, so here it is
-- a relation. `NaiveIsFinal` proves that the naive one is a choice of it where the expression put in is closed.
use Rattle.std.specs.Prelude.{◌≢◌}
use Rattle.language.specs.Expression.{Name, Constant, Exp, constant, name, app, if_then_else, lambda, let_in, rec, Free}

-- `FinalSub x s e e'` says that e' is e[s/x], and `FinalSubUnder x s y e z e'` that the binder y with its scope e becomes the binder z with the
-- scope e': lambda, let and rec alike.
mutual
  pub data FinalSub : Name → Exp → Exp → Exp → Type 0 where
    in_constant : {x : Name} {s : Exp} {c : Constant} → FinalSub x s (constant c) (constant c)
    in_itself : {x : Name} {s : Exp} → FinalSub x s (name x) s
    in_other : {x y : Name} {s : Exp} → x ≢ y → FinalSub x s (name y) (name y)
    in_app : {x : Name} {s e₁ e₁' e₂ e₂' : Exp} → FinalSub x s e₁ e₁' → FinalSub x s e₂ e₂' → FinalSub x s (app e₁ e₂) (app e₁' e₂')
    in_if : {x : Name} {s e₀ e₀' e₁ e₁' e₂ e₂' : Exp} → FinalSub x s e₀ e₀' → FinalSub x s e₁ e₁' → FinalSub x s e₂ e₂' → FinalSub x s (if_then_else e₀ e₁ e₂) (if_then_else e₀' e₁' e₂')
    in_lambda : {x y z : Name} {s e e' : Exp} → FinalSubUnder x s y e z e' → FinalSub x s (lambda y e) (lambda z e')
    in_let : {x y z : Name} {s e₁ e₁' e₂ e₂' : Exp} → FinalSub x s e₁ e₁' → FinalSubUnder x s y e₂ z e₂' → FinalSub x s (let_in y e₁ e₂) (let_in z e₁' e₂')
    in_rec : {x y z : Name} {s e e' : Exp} → FinalSubUnder x s y e z e' → FinalSub x s (rec y e) (rec z e')

  pub data FinalSubUnder : Name → Exp → Name → Exp → Name → Exp → Type 0 where
    hidden : {x : Name} {s e : Exp} → FinalSubUnder x s x e x e
    -- z is a new name: not in free(s) ∪ {x} ∪ free(λ y. e)
    renamed : {x y z : Name} {s e e₁ e' : Exp} → x ≢ y → ¬ Free z s → z ≢ x → ¬ Free z (lambda y e) → FinalSub y (name z) e e₁ → FinalSub x s e₁ e' → FinalSubUnder x s y e z e'
