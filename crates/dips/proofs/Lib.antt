pub mod Constants
pub mod Compares
pub mod DipLaws
pub mod DipAnswers
pub mod Sequence
pub mod Depths
