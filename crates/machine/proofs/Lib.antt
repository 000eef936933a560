-- The loop against the definition's run.
pub mod RunLaws
