-- How far an error of the register can move frame 1's frequency: the claim, examples, the claim of the tracker's calls.
pub mod Bound
pub mod Examples
pub mod Calls
