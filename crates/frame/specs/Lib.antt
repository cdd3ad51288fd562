-- The definitions that the contracts of `frame` cite.
pub mod Kinds
pub mod Sizes
pub mod Fields
pub mod Repairs
pub mod Decode
pub mod Splices
pub mod Plain
pub mod Header
pub mod Control
pub mod Bodies
pub mod Types
