-- The definitions that the contracts of `grip` cite.
pub mod Times
pub mod Nearest
pub mod OnAir
pub mod Marks
pub mod Reading
pub mod Claims
