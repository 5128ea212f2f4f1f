pub mod CodeLemmas
mod TextLemmas
mod TreeLemmas
pub mod OrderLemmas
