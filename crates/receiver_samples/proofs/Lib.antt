-- Laws of the sample buffer.
pub mod BufferLaws
pub mod Fillings
