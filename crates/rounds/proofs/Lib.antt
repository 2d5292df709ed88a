pub mod Bools
pub mod RowLaws
pub mod EndLaws
pub mod WordLaws
pub mod GroupLaws
pub mod RoundLaws
