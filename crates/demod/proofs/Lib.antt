pub mod Constants
pub mod Depths
pub mod FrameLaws
pub mod BurstAnswers
pub mod DecodedFacts
pub mod NumberFacts
pub mod CaptureLaws
