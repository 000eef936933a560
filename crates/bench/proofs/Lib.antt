-- That every row holds. `Promises` is the page to start from.
pub mod Promises
-- From the definitions to the calls.
pub mod BenchLaws
