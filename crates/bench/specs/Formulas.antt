-- The bench formulas P1 to P12, with what the rules state of each; then what none of them gives.
use Rattle.std.specs.Prelude.{ℕ, List, [], ◌∷◌, pos, neg_ℤ}
use Rattle.std.specs.Int.{w32}
use Rattle.std.proofs.Common.{of_z}
use Rattle.bench.specs.Bench.{Row, inference, run}

-- ---- The calls, with the program's sizes where a row names no others

abbrev types_in : ℕ → List ℕ → List ℕ → Row
types_in out table stated = record { table = table; call = inference out; stated = stated }

abbrev types : List ℕ → List ℕ → Row
types table stated = types_in 64 table stated

abbrev runs_with : ℕ → ℕ → ℕ → List ℕ → List ℕ → Row
runs_with fuel bindings frames table stated = record { table = table; call = run fuel bindings frames; stated = stated }

abbrev runs_in : ℕ → ℕ → List ℕ → List ℕ → Row
runs_in fuel bindings table stated = runs_with fuel bindings 512 table stated

abbrev runs : List ℕ → List ℕ → Row
runs table stated = runs_in 100000 512 table stated

-- ---- The formulas

-- An integer below zero, as its pattern of 32 bits.
abbrev minus : ℕ → ℕ
minus n = of_z w32 (neg_ℤ (pos n))

-- (fun x -> + x 1) 5
abbrev p1 : List ℕ
p1 =
    5 ∷ 1 ∷ 7 ∷ 0 ∷
    7 ∷ 0 ∷ 2 ∷ 0 ∷
    5 ∷ 3 ∷ 6 ∷ 0 ∷
    5 ∷ 4 ∷ 5 ∷ 0 ∷
    3 ∷ 0 ∷ 0 ∷ 0 ∷
    4 ∷ 0 ∷ 0 ∷ 0 ∷
    2 ∷ 1 ∷ 0 ∷ 0 ∷
    2 ∷ 5 ∷ 0 ∷ 0 ∷ []

-- fun x -> x
abbrev p2 : List ℕ
p2 =
    7 ∷ 0 ∷ 1 ∷ 0 ∷
    4 ∷ 0 ∷ 0 ∷ 0 ∷ []

-- fun f -> fun x -> f x
abbrev p3 : List ℕ
p3 =
    7 ∷ 0 ∷ 1 ∷ 0 ∷
    7 ∷ 1 ∷ 2 ∷ 0 ∷
    5 ∷ 3 ∷ 4 ∷ 0 ∷
    4 ∷ 0 ∷ 0 ∷ 0 ∷
    4 ∷ 1 ∷ 0 ∷ 0 ∷ []

-- fun x -> x x
abbrev p4 : List ℕ
p4 =
    7 ∷ 0 ∷ 1 ∷ 0 ∷
    5 ∷ 2 ∷ 3 ∷ 0 ∷
    4 ∷ 0 ∷ 0 ∷ 0 ∷
    4 ∷ 0 ∷ 0 ∷ 0 ∷ []

-- rec x -> x
abbrev p5 : List ℕ
p5 =
    9 ∷ 0 ∷ 1 ∷ 0 ∷
    4 ∷ 0 ∷ 0 ∷ 0 ∷ []

-- if true then 1 else false
abbrev p6 : List ℕ
p6 =
    6 ∷ 1 ∷ 2 ∷ 3 ∷
    1 ∷ 1 ∷ 0 ∷ 0 ∷
    2 ∷ 1 ∷ 0 ∷ 0 ∷
    1 ∷ 0 ∷ 0 ∷ 0 ∷ []

-- 1 2
abbrev p7 : List ℕ
p7 =
    5 ∷ 1 ∷ 2 ∷ 0 ∷
    2 ∷ 1 ∷ 0 ∷ 0 ∷
    2 ∷ 2 ∷ 0 ∷ 0 ∷ []

-- 1 (/ 1 0)
abbrev p8 : List ℕ
p8 =
    5 ∷ 1 ∷ 2 ∷ 0 ∷
    2 ∷ 1 ∷ 0 ∷ 0 ∷
    5 ∷ 3 ∷ 6 ∷ 0 ∷
    5 ∷ 4 ∷ 5 ∷ 0 ∷
    3 ∷ 3 ∷ 0 ∷ 0 ∷
    2 ∷ 1 ∷ 0 ∷ 0 ∷
    2 ∷ 0 ∷ 0 ∷ 0 ∷ []

-- let i = fun x -> x in if i true then i 1 else 0
abbrev p9 : List ℕ
p9 =
    8 ∷ 0 ∷ 1 ∷ 3 ∷
    7 ∷ 1 ∷ 2 ∷ 0 ∷
    4 ∷ 1 ∷ 0 ∷ 0 ∷
    6 ∷ 4 ∷ 7 ∷ 10 ∷
    5 ∷ 5 ∷ 6 ∷ 0 ∷
    4 ∷ 0 ∷ 0 ∷ 0 ∷
    1 ∷ 1 ∷ 0 ∷ 0 ∷
    5 ∷ 8 ∷ 9 ∷ 0 ∷
    4 ∷ 0 ∷ 0 ∷ 0 ∷
    2 ∷ 1 ∷ 0 ∷ 0 ∷
    2 ∷ 0 ∷ 0 ∷ 0 ∷ []

-- An operator applied to two integers.
abbrev operation : ℕ → ℕ → ℕ → List ℕ
operation operator m n =
    5 ∷ 1 ∷ 4 ∷ 0 ∷
    5 ∷ 2 ∷ 3 ∷ 0 ∷
    3 ∷ operator ∷ 0 ∷ 0 ∷
    2 ∷ m ∷ 0 ∷ 0 ∷
    2 ∷ n ∷ 0 ∷ 0 ∷ []

-- A name alone.
abbrev p12 : List ℕ
p12 = 4 ∷ 0 ∷ 0 ∷ 0 ∷ []

-- + (if 1 then 2 else 3)
abbrev if_on_integer : List ℕ
if_on_integer =
    5 ∷ 1 ∷ 2 ∷ 0 ∷
    3 ∷ 0 ∷ 0 ∷ 0 ∷
    6 ∷ 3 ∷ 4 ∷ 5 ∷
    2 ∷ 1 ∷ 0 ∷ 0 ∷
    2 ∷ 2 ∷ 0 ∷ 0 ∷
    2 ∷ 3 ∷ 0 ∷ 0 ∷ []

-- = true true
abbrev equal_true_true : List ℕ
equal_true_true =
    5 ∷ 1 ∷ 4 ∷ 0 ∷
    5 ∷ 2 ∷ 3 ∷ 0 ∷
    3 ∷ 9 ∷ 0 ∷ 0 ∷
    1 ∷ 1 ∷ 0 ∷ 0 ∷
    1 ∷ 1 ∷ 0 ∷ 0 ∷ []

-- ---- The table

unfoldable pub formulas : List Row
formulas =
    -- P1: type int; 6 in 14 steps with 1 binding; fuel 13 is used up.
    types p1 (0 ∷ 1 ∷ 3 ∷ []) ∷
    runs p1 (10 ∷ 6 ∷ 14 ∷ 1 ∷ []) ∷
    runs_in 13 512 p1 (17 ∷ []) ∷
    -- P2: type 4 16 16, which is too long for 2 words; a function.
    types p2 (0 ∷ 3 ∷ 4 ∷ 16 ∷ 16 ∷ []) ∷
    runs p2 (13 ∷ []) ∷
    types_in 2 p2 (7 ∷ 0 ∷ []) ∷
    -- P3: type 4 4 16 17 4 16 17.
    types p3 (0 ∷ 7 ∷ 4 ∷ 4 ∷ 16 ∷ 17 ∷ 4 ∷ 16 ∷ 17 ∷ []) ∷
    -- P4: no type.
    types p4 (6 ∷ 0 ∷ []) ∷
    -- P5: type 16; with 10 bindings, fuel 20 is used up, and with fuel 21 the bindings are full, both after 20 steps.
    types p5 (0 ∷ 1 ∷ 16 ∷ []) ∷
    runs_in 20 10 p5 (17 ∷ 0 ∷ 20 ∷ []) ∷
    runs_in 21 10 p5 (18 ∷ 0 ∷ 20 ∷ []) ∷
    -- P6: no type; 1 in 4 steps.
    types p6 (6 ∷ 0 ∷ []) ∷
    runs p6 (10 ∷ 1 ∷ 4 ∷ []) ∷
    -- P7: no type; stuck at node 0 after 4 steps.
    types p7 (6 ∷ 0 ∷ []) ∷
    runs p7 (16 ∷ 0 ∷ 4 ∷ []) ∷
    -- P8: no type; division by zero after 12 steps.
    types p8 (6 ∷ 0 ∷ []) ∷
    runs p8 (14 ∷ 0 ∷ 12 ∷ []) ∷
    -- P9: no type; 1 in 17 steps with 3 bindings.
    types p9 (6 ∷ 0 ∷ []) ∷
    runs p9 (10 ∷ 1 ∷ 17 ∷ 3 ∷ []) ∷
    -- P10: / -7 2 is -3; mod -7 2 is -1.
    runs (operation 3 (minus 7) 2) (10 ∷ minus 3 ∷ []) ∷
    runs (operation 4 (minus 7) 2) (10 ∷ minus 1 ∷ []) ∷
    -- P11: * 65536 32768 overflows; * 65536 32767 is 2147418112.
    runs (operation 2 65536 32768) (15 ∷ []) ∷
    runs (operation 2 65536 32767) (10 ∷ 2147418112 ∷ []) ∷
    -- P12: node 0 has a name without a binder, for inference and for the run.
    types p12 (4 ∷ 0 ∷ []) ∷
    runs p12 (4 ∷ 0 ∷ []) ∷
    -- 11: true. 12: unit. 16 at an if: node 2 after 5 steps. 19: one frame is too few for P1.
    runs (1 ∷ 1 ∷ 0 ∷ 0 ∷ []) (11 ∷ 1 ∷ 1 ∷ 0 ∷ []) ∷
    runs (0 ∷ 0 ∷ 0 ∷ 0 ∷ []) (12 ∷ 0 ∷ 1 ∷ 0 ∷ []) ∷
    runs if_on_integer (16 ∷ 2 ∷ 5 ∷ 0 ∷ []) ∷
    runs_with 100000 512 1 p1 (19 ∷ 0 ∷ 6 ∷ 1 ∷ []) ∷
    -- Fuel for exactly the steps of P1 gives its value; a step that raises an exception needs fuel too.
    runs_in 14 512 p1 (10 ∷ 6 ∷ 14 ∷ 1 ∷ []) ∷
    runs_in 11 512 p8 (17 ∷ 0 ∷ 11 ∷ []) ∷
    -- = true true: no type; stuck at its second argument, node 0, after 8 steps.
    types equal_true_true (6 ∷ 0 ∷ []) ∷
    runs equal_true_true (16 ∷ 0 ∷ 8 ∷ 0 ∷ []) ∷ []
