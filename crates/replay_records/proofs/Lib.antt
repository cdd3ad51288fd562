-- Laws of records.
pub mod Signs
