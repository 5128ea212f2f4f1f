pub mod FlagLemmas
pub mod BookLemmas
