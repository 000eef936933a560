-- Tables that are accepted and refused, computed on the definitions.
use Rattle.std.specs.Prelude.{◌≡◌, refl, [], ◌∷◌, Ok, Err}
use Rattle.table.specs.Node.{node_of, node_at}
use Rattle.table.specs.Walk.{climb_from}
use Rattle.table.specs.Scope.{first_named}
use Rattle.table.specs.Examples.{p1}
use Rattle.acceptance.specs.Refusals.{fits_rule, times_below, first_from, check_of}
use Rattle.acceptance.specs.declared.Refusal.TheVariants.{Misfit, Misplaced, Unbound}

p1_accepted : check_of p1 ≡ Ok 8
unfolding p1 check_of node_at node_of fits_rule times_below first_from first_named climb_from
p1_accepted = refl

-- P12: a name alone has no binder.
p12_refused : check_of (4 ∷ 0 ∷ 0 ∷ 0 ∷ []) ≡ Err (Unbound 0)
unfolding check_of node_at node_of fits_rule times_below first_from first_named climb_from
p12_refused = refl

-- let 0 = 0 in 0, where the first name 0 stands in the bound expression: the let binds in its body only.
let_in_itself : check_of (8 ∷ 0 ∷ 1 ∷ 2 ∷ 4 ∷ 0 ∷ 0 ∷ 0 ∷ 4 ∷ 0 ∷ 0 ∷ 0 ∷ []) ≡ Err (Unbound 1)
unfolding check_of node_at node_of fits_rule times_below first_from first_named climb_from
let_in_itself = refl

-- One child in two fields counts twice; a node that nobody has as a child is refused too; a field out of rule comes before both.
child_twice : check_of (5 ∷ 1 ∷ 1 ∷ 0 ∷ 0 ∷ 0 ∷ 0 ∷ 0 ∷ []) ≡ Err (Misplaced 1)
unfolding check_of node_at node_of fits_rule times_below first_from first_named climb_from
child_twice = refl

orphan : check_of (0 ∷ 0 ∷ 0 ∷ 0 ∷ 0 ∷ 0 ∷ 0 ∷ 0 ∷ []) ≡ Err (Misplaced 1)
unfolding check_of node_at node_of fits_rule times_below first_from first_named climb_from
orphan = refl

field_before_parent : check_of (0 ∷ 0 ∷ 0 ∷ 0 ∷ 0 ∷ 0 ∷ 0 ∷ 0 ∷ 3 ∷ 10 ∷ 0 ∷ 0 ∷ []) ≡ Err (Misfit 2)
unfolding check_of node_at node_of fits_rule times_below first_from first_named climb_from
field_before_parent = refl
