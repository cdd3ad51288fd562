-- Laws of remembered starts, of arrays with a count, and of signed numbers; distances and absolute samples.
pub mod Places
pub mod SampleLaws
pub mod Signed
pub mod StartLaws
