pub mod Counted
pub mod Console
pub mod Devices
