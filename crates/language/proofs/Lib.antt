-- What is true of L2. `Promises` is the page to start from.
pub mod Promises
-- Of expressions and small steps.
pub mod IntegerLaws
pub mod NumberLaws
pub mod MoveDecides
pub mod Determinism
pub mod ClosedSteps
pub mod RangeSteps
pub mod NaiveIsFinal
-- Of types.
pub mod TyLaws
pub mod TypingInversion
pub mod TypingLaws
pub mod Safety
pub mod WrittenFormLaws
-- Of unification.
pub mod MostGeneral
pub mod Elimination
pub mod UnificationCorrect
-- Counting.
pub mod Count
-- Worked examples, most of them the lecture notes' own.
pub mod StepExamples
pub mod TypingExamples
pub mod UnificationExamples
pub mod WordExamples
