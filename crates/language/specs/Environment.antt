-- Environments: finite lists of names with what each stands for, the newest entry last (lecture notes, Definition 12).
use Rattle.std.specs.Prelude.{◌≢◌}
use Rattle.language.specs.Expression.{Name}

-- `bind Γ x a` is Γ[a/x].
pub data Env (A : Type 0) : Type 0 where
  empty : Env A
  bind : Env A → Name → A → Env A

-- `Find Γ x a Δ` says that Γ(x) = a, and that Δ is what stands outside of that entry.
pub data Find {A : Type 0} : Env A → Name → A → Env A → Type 0 where
  here : {Γ : Env A} {x : Name} {a : A} → Find (bind Γ x a) x a Γ
  outside : {Γ Δ : Env A} {x y : Name} {a b : A} → x ≢ y → Find Γ x a Δ → Find (bind Γ y b) x a Δ
