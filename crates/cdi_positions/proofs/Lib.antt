mod Common
pub mod MarkLemmas
pub mod SetLemmas
pub mod WordLemmas
