-- The definitions that the contracts of `uplink` cite.
pub mod Line
