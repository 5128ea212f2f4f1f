pub mod Codes
pub mod FaultText
pub mod TextTree
