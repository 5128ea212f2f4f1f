pub mod AnyLemmas
mod ListLemmas
pub mod SetLemmas
pub mod UseLemmas
pub mod ShortLemmas
