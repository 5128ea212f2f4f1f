pub mod Each
pub mod Any
pub mod Filters
pub mod Flat
pub mod Places
pub mod Sorting
