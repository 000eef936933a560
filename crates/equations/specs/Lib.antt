-- The equations of a table: what their solutions are to the typing rules stands in `proofs/`, where `Promises` is the page to start from.
pub mod Equations
pub mod ScopeEnvironment
pub mod Derivations
-- Inference by the textbook's unification.
pub mod Inferred
