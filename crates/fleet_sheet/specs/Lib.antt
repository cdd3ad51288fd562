-- The definitions that the contracts of `fleet_sheet` cite.
pub mod Fleet
pub mod Report
pub mod Table
pub mod Tallies
pub mod Claims
