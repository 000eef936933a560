-- A substitution makes a scope an environment: each binder's name has there the type of that binder's unknown.
use Rattle.std.specs.Prelude.{ℕ, ◌<◌, Bool, ◌≢◌, eqb, Option, Some}
use Rattle.std.proofs.Math.Path.{◌≡◌, refl}
use Rattle.std.proofs.Common.{sym, arith, eqb-true}
use Rattle.std.proofs.Math.Bool.{true, false, cond}
use mathlib.Core.List.{List, [], ◌∷◌}
use Rattle.std.proofs.lemmas.Bool.{eqb-false}
use Rattle.language.specs.Expression.{Name, name}
use Rattle.language.specs.Ty.{Ty, Subst}
use Rattle.language.specs.Environment.{Env, empty, bind, here, outside}
use Rattle.language.specs.Typing.{Has, ID}
use Rattle.table.specs.Node.{Node, Nodes, constant_node, name_node, application_node, if_node, lambda_node, let_node, rec_node, Field, Kid}
use Rattle.table.specs.Scope.{binds_in, enter, scope, is_named, first_named, binder_of}
use Rattle.table.specs.Tree.{Tree, ClosedTree}
use Rattle.table.specs.TreeLaws.{climb_kid}
use Rattle.equations.specs.Equations.{name_var}

-- Γ with the name that a node binds, if it binds one, at type τ.
abbrev with_name : Node → Ty → Env Ty → Env Ty
with_name (constant_node c) τ Γ = Γ
with_name (name_node x) τ Γ = Γ
with_name (application_node l r) τ Γ = Γ
with_name (if_node e₀ e₁ e₂) τ Γ = Γ
with_name (lambda_node x e) τ Γ = bind Γ x τ
with_name (let_node x e₁ e₂) τ Γ = bind Γ x τ
with_name (rec_node x e) τ Γ = bind Γ x τ

-- The environment of the child in a field of a node, if Γ is the node's and τ the type of its name.
abbrev pub inside : Node → Field → Ty → Env Ty → Env Ty
inside node f τ Γ = cond (binds_in node f) (with_name node τ Γ) Γ

module _ (nd : Nodes) (s : Subst) where
  -- The environment of a scope.
  unfoldable pub env_of : List ℕ → Env Ty
  env_of [] = empty
  env_of (p ∷ ps) = with_name (nd p) (s (name_var p)) (env_of ps)

  pub env_of_kid : {n p c : ℕ} {f : Field} → Tree nd n → p < n → Kid nd p f c → env_of (scope nd c) ≡ inside (nd p) f (s (name_var p)) (env_of (scope nd p))
  unfolding env_of
  env_of_kid {p = p} {f = f} t below kid = rw (climb_kid t [] (enter nd) below kid) (entered (binds_in (nd p) f))
    where
      entered : (b : Bool) → env_of (cond b (p ∷ scope nd p) (scope nd p)) ≡ cond b (with_name (nd p) (s (name_var p)) (env_of (scope nd p))) (env_of (scope nd p))
      entered true = refl
      entered false = refl

  -- ---- Look-up

  module _ (x : Name) (p b : ℕ) {Γ : Env Ty} {outer : Option ℕ} (around : outer ≡ Some b → Has Γ (name x) (s (name_var b))) where
    found_at_binder : (y : Name) → cond (eqb y x) (Some p) outer ≡ Some b → Has (bind Γ y (s (name_var p))) (name x) (s (name_var b))
    found_at_binder y = go (eqb y x) refl
      where
        past : {τ : Ty} → x ≢ y → Has Γ (name x) τ → Has (bind Γ y (s (name_var p))) (name x) τ
        past differ (ID found) = ID (outside differ found)

        go : (i : Bool) → eqb y x ≡ i → cond i (Some p) outer ≡ Some b → Has (bind Γ y (s (name_var p))) (name x) (s (name_var b))
        go true same e =
            let names : y ≡ x = eqb-true y x same in
            let nodes : p ≡ b = cc in
            rw (names, nodes) (ID here)
        go false differ e = past (λ names. eqb-false y x differ (sym names)) (around e)

    found_at : (node : Node) → cond (is_named x node) (Some p) outer ≡ Some b → Has (with_name node (s (name_var p)) Γ) (name x) (s (name_var b))
    found_at (constant_node c) = around
    found_at (name_node y) = around
    found_at (application_node l r) = around
    found_at (if_node e₀ e₁ e₂) = around
    found_at (lambda_node y e) = found_at_binder y
    found_at (let_node y e₁ e₂) = found_at_binder y
    found_at (rec_node y e) = found_at_binder y

  name_found : (x : Name) (b : ℕ) (ps : List ℕ) → first_named nd x ps ≡ Some b → Has (env_of ps) (name x) (s (name_var b))
  unfolding env_of first_named
  name_found x b [] e = absurd (let z : ◌≡◌ {A = ℕ} 0 1 = cc in omega arith)
  name_found x b (p ∷ ps) e = found_at x p b (name_found x b ps) (nd p) e

  -- A name node's name has the type of its binder.
  pub name_has_binder's_type : {n k : ℕ} {x : Name} → ClosedTree nd n → k < n → nd k ≡ name_node x → (b : ℕ) × (binder_of nd k ≡ Some b) × Has (env_of (scope nd k)) (name x) (s (name_var b))
  name_has_binder's_type {k = k} {x = x} t below e = let (b, found) = t.bound below e in (b, rw e found, name_found x b (scope nd k) found)
