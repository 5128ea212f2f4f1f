pub mod Leaving
pub mod Search
pub mod Ways
pub mod Circles
pub mod Order
