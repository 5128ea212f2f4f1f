pub mod Options
pub mod Session
