-- Inference's code against the typing rules: what it says of the cells of a tree, and what it answers. Start at `Inference` and `Promises`.
pub mod Promises
-- Definitions.
pub mod Inference
pub mod Cases
pub mod TableCells
pub mod OfFormula
-- The equations of a tree.
pub mod NodeCells
pub mod RuleLaws
pub mod TableLaws
-- The answer.
pub mod InferCall
pub mod Principality
pub mod Textbook
pub mod InferenceOnce
pub mod AcceptsExactly
pub mod TypeWithin
pub mod AnswerPlaces
pub mod Examples
