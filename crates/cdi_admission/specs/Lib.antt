pub mod TextSets
pub mod Admission
