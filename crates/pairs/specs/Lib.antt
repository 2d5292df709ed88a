pub mod Storage
pub mod Changes
