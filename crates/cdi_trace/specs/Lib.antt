pub mod Names
pub mod TraceText
pub mod Entries
pub mod Instances
