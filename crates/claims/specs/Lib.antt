pub mod Book
pub mod Session
pub mod Demands
pub mod Further
pub mod Share
pub mod Queries
