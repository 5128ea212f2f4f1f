pub mod AlternativeLemmas
pub mod CandidateLemmas
pub mod ObservedLemmas
