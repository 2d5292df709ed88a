pub mod EvaluationChecks
pub mod Evaluated
pub mod Order
pub mod Passes
