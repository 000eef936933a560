-- The entries for a host in C. `Promises` is the page to start from.
pub mod Promises
-- Definitions.
pub mod Entries
pub mod Rooms
pub mod BytesOf8Bits
pub mod EntryReaches
-- The steps of the entries.
pub mod TableWords
pub mod TypeBytes
-- Their answers.
pub mod EntriesOnce
pub mod Parts
pub mod EnoughWork
pub mod EntryPlaces
pub mod Loaded
pub mod WordsOfBytes
pub mod EntryEnds
