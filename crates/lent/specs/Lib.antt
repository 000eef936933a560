-- Lent slices of words.
-- Definitions.
pub mod Cleared
pub mod Bytes
pub mod Written
-- Lists are written into a slice.
pub mod WrittenLaws
pub mod Writing
pub mod ByteLaws
-- Laws that callers cite.
pub mod Prefix
pub mod Smaller
