pub mod Text
pub mod Calls
pub mod Laws
pub mod RoundTrip
