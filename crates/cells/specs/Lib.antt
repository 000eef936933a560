-- Type cells: what their words stand for, what the code does to them, and which types they leave. Start at `Interface` and `Promises`.
pub mod Promises
-- Definitions.
pub mod Cells
pub mod Layout
pub mod Interface
-- Stores of type cells.
pub mod CellSteps
pub mod Grounded
-- The words of cells.
pub mod Puts
pub mod LayoutLaws
pub mod StoreLaws
-- New cells.
pub mod Starting
-- The solver.
pub mod Solving
pub mod Paths
pub mod Meetings
pub mod SolvingLaws
pub mod Outcomes
pub mod Saying
-- The test for cycles.
pub mod Grounding
pub mod GroundLaws
-- Writing types.
pub mod Writing
pub mod Spelling
pub mod RootTypes
pub mod MeasuringLaws
pub mod WritingLaws
