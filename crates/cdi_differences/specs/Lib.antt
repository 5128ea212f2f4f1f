pub mod Differences
pub mod Holds
pub mod Laws
pub mod Wiring
