-- What the solutions of a table's equations are to the typing rules. `Promises` is the page to start from.
pub mod Promises
-- Solutions are typings, and typings are solutions.
pub mod NodeByNode
pub mod SolutionsType
pub mod TypingsSolve
pub mod TypedExactlySolvable
-- Inference by the textbook's unification.
pub mod InferredRight
