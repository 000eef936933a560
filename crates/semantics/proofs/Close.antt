-- All names of an expression replaced at once, as an environment does it. Names are replaced naively, as in `Substitution`.
use Rattle.std.specs.Prelude.{◌≡◌, Bool}
use Rattle.std.proofs.Math.Path.{refl, sym, ap, ap₂, fun_ext}
use Rattle.std.proofs.Common.{◌∙◌, eqb-true, eq-eqb}
use Rattle.std.proofs.Math.Bool.{true, false, cond}
use Rattle.std.proofs.Math.Dec.{eqb}
use Rattle.std.proofs.lemmas.Bool.{eqb-false}
use Rattle.language.specs.Expression.{Name, Exp, constant, name, app, if_then_else, lambda, let_in, rec}
use Rattle.language.specs.Substitution.{sub}

-- What stands for each name; `name` itself replaces nothing.
abbrev pub Replacement : Type 0
Replacement = Name → Exp

abbrev pub bind : Name → Exp → Replacement → Replacement
bind x s σ y = cond (eqb x y) s (σ y)

-- A binder keeps its name from being replaced.
abbrev pub hide : Name → Replacement → Replacement
hide x σ = bind x (name x) σ

unfoldable pub close : Replacement → Exp → Exp
close σ (constant c) = constant c
close σ (name x) = σ x
close σ (app e₁ e₂) = app (close σ e₁) (close σ e₂)
close σ (if_then_else e₀ e₁ e₂) = if_then_else (close σ e₀) (close σ e₁) (close σ e₂)
close σ (lambda x e) = lambda x (close (hide x σ) e)
close σ (let_in x e₁ e₂) = let_in x (close σ e₁) (close (hide x σ) e₂)
close σ (rec x e) = rec x (close (hide x σ) e)

-- ---- Nothing replaced

hide_nothing : (x : Name) → hide x name ≡ name
hide_nothing x = fun_ext λ y. go y (eqb x y) refl
  where
    go : (y : Name) (b : Bool) → eqb x y ≡ b → cond b (name x) (name y) ≡ name y
    go y true p = ap name (eqb-true x y p)
    go y false p = refl

pub close_nothing : (e : Exp) → close name e ≡ e
unfolding close
close_nothing (constant c) = refl
close_nothing (name x) = refl
close_nothing (app e₁ e₂) = ap₂ app (close_nothing e₁) (close_nothing e₂)
close_nothing (if_then_else e₀ e₁ e₂) = rw (close_nothing e₀, close_nothing e₁, close_nothing e₂)
close_nothing (lambda x e) = rw (hide_nothing x, close_nothing e)
close_nothing (let_in x e₁ e₂) = rw (hide_nothing x, close_nothing e₁, close_nothing e₂)
close_nothing (rec x e) = rw (hide_nothing x, close_nothing e)

-- ---- One more name

bind_again : (x : Name) (s s' : Exp) (σ : Replacement) → bind x s (bind x s' σ) ≡ bind x s σ
bind_again x s s' σ = fun_ext λ y. go y (eqb x y)
  where
    go : (y : Name) (b : Bool) → cond b s (cond b s' (σ y)) ≡ cond b s (σ y)
    go y true = refl
    go y false = refl

bind_apart : (x y : Name) (s s' : Exp) (σ : Replacement) → eqb x y ≡ false → bind y s' (bind x s σ) ≡ bind x s (bind y s' σ)
bind_apart x y s s' σ p = fun_ext λ z. go z (eqb x z) (eqb y z) refl refl
  where
    go : (z : Name) (b c : Bool) → eqb x z ≡ b → eqb y z ≡ c → cond c s' (cond b s (σ z)) ≡ cond b s (cond c s' (σ z))
    go z true true q r = absurd (eqb-false x y p (eqb-true x z q ∙ sym (eqb-true y z r)))
    go z true false q r = refl
    go z false true q r = refl
    go z false false q r = refl

module _ (x : Name) (s : Exp) where
  -- x is free in nothing that σ puts in for another name.
  pub record Apart (σ : Replacement) : Type 0 where
    pub kept : (y : Name) → eqb x y ≡ false → sub x s (σ y) ≡ σ y

  pub nothing_apart : Apart name
  unfolding sub
  nothing_apart = record { kept = λ y p. rw p }

  pub bind_keeps_apart : {σ : Replacement} (y : Name) (w : Exp) → sub x s w ≡ w → Apart σ → Apart (bind y w σ)
  bind_keeps_apart {σ} y w same apart = record { kept = λ z p. go z p (eqb y z) }
    where
      go : (z : Name) → eqb x z ≡ false → (b : Bool) → sub x s (cond b w (σ z)) ≡ cond b w (σ z)
      go z p true = same
      go z p false = apart.kept z p

  abbrev PutIn : Exp → Type 0
  PutIn e = (σ : Replacement) → Apart σ → close (bind x s σ) e ≡ sub x s (close (hide x σ) e)

  put_under : (y : Name) (e : Exp) → PutIn e → (σ : Replacement) → Apart σ →
      close (hide y (bind x s σ)) e ≡ cond (eqb x y) (close (hide y (hide x σ)) e) (sub x s (close (hide y (hide x σ)) e))
  put_under y e ih σ apart = go (eqb x y) refl
    where
      go : (b : Bool) → eqb x y ≡ b → close (hide y (bind x s σ)) e ≡ cond b (close (hide y (hide x σ)) e) (sub x s (close (hide y (hide x σ)) e))
      go true p = rw (eqb-true x y p, bind_again y (name y) s σ, bind_again y (name y) (name y) σ)
      go false p = rw (bind_apart x y s (name y) σ p, bind_apart x y (name x) (name y) σ p) (ih (hide y σ) (bind_keeps_apart y (name y) (nothing_apart.kept y p) apart))

  -- To bind a name is to substitute for it after all others are replaced.
  pub put_in : (e : Exp) → PutIn e
  unfolding close sub
  put_in (constant c) σ apart = refl
  put_in (name y) σ apart = go (eqb x y) refl
    where
      go : (b : Bool) → eqb x y ≡ b → cond b s (σ y) ≡ sub x s (cond b (name x) (σ y))
      go true p = rw (eq-eqb x x refl)
      go false p = sym (apart.kept y p)
  put_in (app e₁ e₂) σ apart = ap₂ app (put_in e₁ σ apart) (put_in e₂ σ apart)
  put_in (if_then_else e₀ e₁ e₂) σ apart = rw (put_in e₀ σ apart, put_in e₁ σ apart, put_in e₂ σ apart)
  put_in (lambda y e) σ apart = ap (lambda y) (put_under y e (put_in e) σ apart)
  put_in (let_in y e₁ e₂) σ apart = ap₂ (let_in y) (put_in e₁ σ apart) (put_under y e₂ (put_in e₂) σ apart)
  put_in (rec y e) σ apart = ap (rec y) (put_under y e (put_in e) σ apart)
