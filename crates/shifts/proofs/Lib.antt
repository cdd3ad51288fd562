pub mod Examples
pub mod Loops
pub mod Times
pub mod Walks
