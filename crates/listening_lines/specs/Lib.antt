pub mod Text
pub mod Lines
mod Example
