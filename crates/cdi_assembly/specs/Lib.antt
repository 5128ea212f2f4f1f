pub mod Told
pub mod Put
pub mod Steps
