pub mod RowLaws
pub mod StackLaws
pub mod StepLaws
pub mod ParseLaws
pub mod AroundLaws
pub mod CodeLaws
pub mod EquationLaws
pub mod BlindLaws
