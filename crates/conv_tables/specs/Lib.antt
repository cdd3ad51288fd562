-- The definitions that the contracts of `conv_tables` cite.
pub mod Tables
