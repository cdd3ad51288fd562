-- 01's edges.
pub mod Edges
