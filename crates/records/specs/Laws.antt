pub mod FirstWords
pub mod RoundTrip
