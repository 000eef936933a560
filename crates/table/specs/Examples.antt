-- Tables that are read, computed on the definitions.
use Rattle.std.specs.Prelude.{ℕ, ◌≡◌, refl, List, [], ◌∷◌, true, false, pos, Some}
use Rattle.language.specs.Expression.{plus, boolean, integer, operator, constant, name, app, if_then_else, lambda}
use Rattle.table.specs.Node.{node_of, node_at}
use Rattle.table.specs.Walk.{climb_from}
use Rattle.table.specs.Scope.{first_named, binder_of, scope}
use Rattle.table.specs.ExpressionOf.{exp_from, exp_of}

-- P1: (fun x -> + x 1) 5
unfoldable pub p1 : List ℕ
p1 =
    5 ∷ 1 ∷ 7 ∷ 0 ∷
    7 ∷ 0 ∷ 2 ∷ 0 ∷
    5 ∷ 3 ∷ 6 ∷ 0 ∷
    5 ∷ 4 ∷ 5 ∷ 0 ∷
    3 ∷ 0 ∷ 0 ∷ 0 ∷
    4 ∷ 0 ∷ 0 ∷ 0 ∷
    2 ∷ 1 ∷ 0 ∷ 0 ∷
    2 ∷ 5 ∷ 0 ∷ 0 ∷ []

p1_expression : exp_of p1 ≡ app (lambda 0 (app (app (constant (operator plus)) (name 0)) (constant (integer (pos 1))))) (constant (integer (pos 5)))
unfolding p1 exp_from node_at node_of
p1_expression = refl

p1_binder : binder_of (node_at p1) 5 ≡ Some 1
unfolding p1 node_at node_of first_named climb_from
p1_binder = refl

-- P6: if true then 1 else false
p6_expression : exp_of (6 ∷ 1 ∷ 2 ∷ 3 ∷ 1 ∷ 1 ∷ 0 ∷ 0 ∷ 2 ∷ 1 ∷ 0 ∷ 0 ∷ 1 ∷ 0 ∷ 0 ∷ 0 ∷ []) ≡ if_then_else (constant (boolean true)) (constant (integer (pos 1))) (constant (boolean false))
unfolding exp_from node_at node_of
p6_expression = refl

-- fun 0 -> fun 0 -> 0: the nearest lambda binds, and both are in scope.
shadowed : List ℕ
shadowed = 7 ∷ 0 ∷ 1 ∷ 0 ∷ 7 ∷ 0 ∷ 2 ∷ 0 ∷ 4 ∷ 0 ∷ 0 ∷ 0 ∷ []

nearest_binds : binder_of (node_at shadowed) 2 ≡ Some 1
unfolding shadowed node_at node_of first_named climb_from
nearest_binds = refl

both_in_scope : scope (node_at shadowed) 2 ≡ 1 ∷ 0 ∷ []
unfolding shadowed node_at node_of climb_from
both_in_scope = refl
