-- What acceptance says, and each refusal exactly. `Promises` is the page to start from.
pub mod Promises
pub mod RefusalsExactly
pub mod RefusedPlaces
