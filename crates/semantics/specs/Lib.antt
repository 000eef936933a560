-- The machine that runs formulas. What is proved of its runs stands in `proofs/`, where `Promises` is the page to start from.
pub mod Limits
pub mod Machine
pub mod Answer
pub mod SmallEnd
pub mod StuckNodes
pub mod Reached
pub mod ComesTo
-- Fuel and room, for any machine.
pub mod EndsIn
pub mod StopsFor
-- Environments and scopes.
pub mod InScope
