-- What the parts of the machine stand for in the language. Relations, since an operator with a value that is no integer forgets it.
use Rattle.std.specs.Prelude.{ℕ, ◌+◌, ◌<◌, ◌≡◌, Bool, List, [], ◌∷◌, ℤ, None}
use Rattle.language.specs.Expression.{Name, Operator, unit_element, boolean, integer, operator, Exp, constant, name, app, if_then_else, lambda, let_in, rec, Closed}
use Rattle.language.specs.Expression as L2
use Rattle.language.specs.Move.{as_integer}
use Rattle.table.specs.Node.{Nodes}
use Rattle.table.specs.ExpressionOf.{exp_at}
use Rattle.semantics.specs.Machine.{Value, unit_value, boolean_value, integer_value, operator_value, operator_with, operator_with_other, closure, Chain, empty}
use Rattle.semantics.specs.Machine.{bound, rec_bound, Frame, left_part, holding, if_frame, let_frame, State, evaluate, return}
use Rattle.semantics.proofs.Close.{Replacement, bind, hide, close}

module _ (nd : Nodes) (n : ℕ) where
  abbrev at : ℕ → Exp
  at k = exp_at nd n k

  mutual
    -- A value stands for a value of the language.
    pub data ValueFor : Value → Exp → Type 0 where
      the_unit : ValueFor unit_value (constant unit_element)
      a_boolean : {b : Bool} → ValueFor (boolean_value b) (constant (boolean b))
      an_integer : {m : ℤ} → ValueFor (integer_value m) (constant (integer m))
      an_operator : {o : Operator} → ValueFor (operator_value o) (constant (operator o))
      with_integer : {o : Operator} {m : ℤ} → ValueFor (operator_with o m) (app (constant (operator o)) (constant (integer m)))
      with_other : {o : Operator} {w : Exp} → L2.Value w → as_integer w ≡ None → ValueFor (operator_with_other o) (app (constant (operator o)) w)
      a_closure : {x : Name} {k : ℕ} {η : Chain} {σ : Replacement} → k < n → ChainFor η σ → ValueFor (closure x k η) (lambda x (close (hide x σ) (at k)))

    -- An environment stands for what it puts in for names: closed expressions. What it does not bind stays.
    pub data ChainFor : Chain → Replacement → Type 0 where
      nothing_bound : ChainFor empty name
      binding : {x : Name} {v : Value} {w : Exp} {η : Chain} {σ : Replacement} → ValueFor v w → Closed w → ChainFor η σ → ChainFor (bound x v η) (bind x w σ)
      rec_binding : {x : Name} {k : ℕ} {e : Exp} {η : Chain} {σ : Replacement} → k < n → at k ≡ rec x e → Closed (close σ (rec x e)) → ChainFor η σ →
          ChainFor (rec_bound x k η) (bind x (close σ (rec x e)) σ)

  -- Pending frames stand for a context, the newest innermost.
  pub data Around : List Frame → (Exp → Exp) → Type 0 where
    nothing_around : Around [] (λ e. e)
    left_of : {k r : ℕ} {η : Chain} {σ : Replacement} {frames : List Frame} {context : Exp → Exp} → r < n → ChainFor η σ → Around frames context →
        Around (left_part k r η ∷ frames) (λ e. context (app e (close σ (at r))))
    right_of : {k : ℕ} {v : Value} {w : Exp} {frames : List Frame} {context : Exp → Exp} → ValueFor v w → Around frames context →
        Around (holding k v ∷ frames) (λ e. context (app w e))
    condition_of : {k e₁ e₂ : ℕ} {η : Chain} {σ : Replacement} {frames : List Frame} {context : Exp → Exp} → e₁ < n → e₂ < n → ChainFor η σ →
        Around frames context →
        Around (if_frame k e₁ e₂ η ∷ frames) (λ e. context (if_then_else e (close σ (at e₁)) (close σ (at e₂))))
    bound_in : {x : Name} {e₂ : ℕ} {η : Chain} {σ : Replacement} {frames : List Frame} {context : Exp → Exp} → e₂ < n → ChainFor η σ → Around frames context →
        Around (let_frame x e₂ η ∷ frames) (λ e. context (let_in x e (close (hide x σ) (at e₂))))

  -- A state stands for the expression in its context.
  pub data StateFor : State → Exp → Type 0 where
    evaluating : {k : ℕ} {η : Chain} {σ : Replacement} {frames : List Frame} {context : Exp → Exp} → k < n → ChainFor η σ → Around frames context →
        StateFor (evaluate k η frames) (context (close σ (at k)))
    returning : {v : Value} {w : Exp} {frames : List Frame} {context : Exp → Exp} → ValueFor v w → Around frames context →
        StateFor (return v frames) (context w)

-- ---- Work before the next small step

-- So much that each step of the machine that is no small step makes it less.
unfoldable pub work : Exp → ℕ
work (constant c) = 1
work (name x) = 2
work (app e₁ e₂) = work e₁ + work e₂ + 3
work (if_then_else e₀ e₁ e₂) = work e₀ + 1
work (lambda x e) = 1
work (let_in x e₁ e₂) = work e₁ + 1
work (rec x e) = 1

module _ (nd : Nodes) (n : ℕ) where
  abbrev pub frame_work : Frame → ℕ
  frame_work (left_part k r η) = work (exp_at nd n r) + 2
  frame_work (holding k v) = 1
  frame_work (if_frame k e₁ e₂ η) = 0
  frame_work (let_frame x e₂ η) = 0

  unfoldable pub frames_work : List Frame → ℕ
  frames_work [] = 0
  frames_work (frame ∷ frames) = frame_work frame + frames_work frames

  abbrev pub state_work : State → ℕ
  state_work (evaluate k η frames) = work (exp_at nd n k) + frames_work frames
  state_work (return v frames) = frames_work frames
