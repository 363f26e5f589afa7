pub mod Laws
pub mod Determined
pub mod RoundTrip
pub mod Cases
pub mod Length
