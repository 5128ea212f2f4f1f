pub mod ChainLemmas
pub mod UseLemmas
pub mod SeenLemmas
mod ConflictLemmas
pub mod AroundLemmas
