-- The check of a formula table: its refusals. What acceptance says stands in `proofs/`, where `Promises` is the page to start from.
pub mod Examples
-- Definitions.
pub mod Refusals
pub mod RefusedFor
pub mod Checked
-- Acceptance and refusals.
pub mod FirstFrom
pub mod Times
pub mod Fitting
pub mod Accepted
-- What the code computes.
pub mod SearchLoop
pub mod FieldRules
pub mod Counting
pub mod CountingLaws
pub mod Parents
pub mod Placed
pub mod Unbound
pub mod Stages
