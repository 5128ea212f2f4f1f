pub mod Last
pub mod HomeLemmas
pub mod Rising
pub mod Places
pub mod Younger
pub mod StateLemmas
