pub mod Printed
pub mod LineEnd
