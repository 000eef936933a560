-- The formula table: its nodes, what its names mean, and the expression that it stands for. `Promises` is the page to start from.
pub mod Promises
pub mod Examples
-- Definitions.
pub mod Node
pub mod Walk
pub mod Scope
pub mod ExpressionOf
pub mod Tree
pub mod Asked
pub mod Reading
pub mod WordsOf32Bits
-- A table as a tree.
pub mod TreeLaws
pub mod ExpressionLaws
pub mod ClosedFormula
-- What the code computes.
pub mod NodeLaws
pub mod Lookup
