-- The program's input and output as bytes.
-- Definitions.
pub mod Lines
pub mod Program
pub mod Reading
pub mod Responding
-- The code of the reads.
pub mod Turns
pub mod ReadingLaws
-- The code of the lines.
pub mod LineLaws
pub mod PrintedPayload
-- The program.
pub mod ProgramLaws
pub mod WholeInput
pub mod PrintsOnce
pub mod Examples
