-- L2, the language of the formulas: what an expression is, how it steps, and what type it has. What is true of that stands in `proofs/`,
-- where `Promises` is the page to start from: a definition is believed by reading it beside its section of the lecture notes, a proof is
-- checked.
-- Expressions and small steps.
pub mod Expression
pub mod Integers
pub mod Numbers
pub mod Substitution
pub mod FinalSubstitution
pub mod SmallStep
pub mod Move
pub mod AllInRange
-- Types.
pub mod Ty
pub mod Environment
pub mod Typing
pub mod Principal
pub mod WrittenForm
-- Unification.
pub mod Unification
-- Counting.
pub mod Once
-- How the lecture notes write expressions, for the examples.
pub mod Notation
