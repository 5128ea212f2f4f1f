pub mod Spared
pub mod Apart
pub mod Unconcerned
pub mod Known
pub mod Settled
pub mod Stays
pub mod Positions
