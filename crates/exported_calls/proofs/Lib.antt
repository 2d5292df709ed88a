pub mod ReplyLaws
pub mod ExportedCalls
pub mod Refusals
