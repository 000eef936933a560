-- The bench formulas P1 to P12: one table, and the single claim that every row of it holds of the calls.
use Rattle.std.specs.Prelude.{◌≡◌, refl, map}
use Rattle.bench.specs.Bench.{Holds, Each}
use Rattle.bench.specs.Computed.{computed}
use Rattle.bench.proofs.BenchLaws as BenchLaws
use Rattle.bench.specs.Formulas.{formulas}

-- The definitions compute what is stated.
formulas_computed : map computed formulas ≡ map (λ row. row.stated) formulas
unfolding formulas computed
formulas_computed = refl

-- Every answer that the contracts of inference and of a run allow is the one that is stated.
bench_formulas_hold : Each Holds formulas
bench_formulas_hold = BenchLaws.computed_rows_hold formulas formulas_computed
