pub mod Talking
