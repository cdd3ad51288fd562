pub mod EventLaws
pub mod SumLaws
