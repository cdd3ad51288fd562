-- The definitions that the contracts of `writer` cite, and the round trip.
pub mod Uplink
pub mod Answers
pub mod RoundTrip
