-- The laws of `conv_tables`.
pub mod TableLaws
