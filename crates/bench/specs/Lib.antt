-- The bench formulas P1 to P12 as one table. The single claim about it stands in `proofs/`, where `Promises` is the page to start from.
pub mod Bench
-- The table.
pub mod Formulas
-- What the definitions compute for it.
pub mod Computed
