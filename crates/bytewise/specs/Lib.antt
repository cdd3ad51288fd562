-- The definitions that the contracts of `bytewise` cite. Agreement has the theorem of request 06.
pub mod Steps
pub mod Answers
pub mod Agreement
