pub mod Emission
mod Example
