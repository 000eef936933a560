-- What is proved of the runs of the machine. `Promises` is the page to start from.
pub mod Promises
-- Fuel and room, for any machine.
pub mod LimitsLaws
pub mod StopsForLaws
-- The codes of answers, and runs that name a limit.
pub mod AnswerCodes
pub mod FramesInUse
pub mod LimitMeans
-- Environments and scopes.
pub mod InScopeLaws
-- The machine against the small steps.
pub mod Close
pub mod Standing
pub mod StandingLaws
pub mod Simulation
pub mod SmallEndLaws
pub mod EndsLikeSmallSteps
pub mod NodeRuns
pub mod TableRuns
-- Runs of the bench formulas.
pub mod Examples
