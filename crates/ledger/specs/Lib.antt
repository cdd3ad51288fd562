-- 01's ledger, the causes of a refusal, demand 3's claims, and the room that a call needs. Read Frames, Merge, Ledger, Causes, then Demand3, History, Example.
pub mod Types
pub mod Frames
pub mod Merge
pub mod Ledger
pub mod Scanning
pub mod Demodulation
pub mod Records
pub mod Causes
pub mod Demand3
pub mod History
pub mod Room
pub mod Grown
pub mod GrownExample
pub mod EitherOrder
pub mod EitherOrderExample
pub mod Example
