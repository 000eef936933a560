-- The ten operators on patterns of 32 bits.
pub mod Operated
pub mod Patterns
-- What the code computes.
pub mod Answers
