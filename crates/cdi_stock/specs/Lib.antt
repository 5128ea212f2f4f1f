pub mod Acts
pub mod Table
