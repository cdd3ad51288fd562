-- The definitions that the contracts of `receiver_grown` cite.
pub mod InOrder
pub mod Grown
