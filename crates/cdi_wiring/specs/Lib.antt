pub mod Laws
pub mod Wired
