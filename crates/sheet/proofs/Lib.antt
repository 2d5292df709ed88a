pub mod Ops
pub mod Depths
pub mod Sheets
pub mod Headers
pub mod Postfixes
pub mod Versions
pub mod First
pub mod Formed
