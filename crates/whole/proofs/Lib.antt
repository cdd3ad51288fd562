-- What std's conversion of a test to a number gives (Tests).
pub mod Tests
