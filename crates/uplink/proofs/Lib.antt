-- The laws of `uplink`: the loops over a line; what its words say.
pub mod Words
pub mod Frames
