-- The definitions that the contracts of `event_list` cite.
pub mod Events
pub mod Sums
