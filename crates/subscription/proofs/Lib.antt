pub mod DayLaws
pub mod CountLaws
pub mod PriceLaws
pub mod ChargeLaws
pub mod Claims
pub mod Contracts
pub mod Example
