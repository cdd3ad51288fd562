-- The theorem over 01's edges.
pub mod Edges
