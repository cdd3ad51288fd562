-- The definitions that the contracts of `frequency_grown` cite.
pub mod Known
pub mod Rising
