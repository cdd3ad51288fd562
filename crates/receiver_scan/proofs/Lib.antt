-- Laws of a scan.
pub mod EventLaws
pub mod TakeLaws
pub mod EachLaws
