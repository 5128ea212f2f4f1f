mod Common
pub mod ReadLemmas
pub mod ChangeLemmas
mod AffectedLemmas
mod CountLemmas
mod ShelfLemmas
mod KeptAtLemmas
mod LoopLemmas
mod NextLemmas
mod InstallLemmas
mod TurnLemmas
mod KeyLemmas
mod ReplacedLemmas
pub mod UnderLemmas
mod SlotLemmas
mod OrderLemmas
mod NumberLemmas
mod InOrderLemmas
pub mod NamedLemmas
pub mod AskedLemmas
mod ToldLemmas
pub mod SoughtLemmas
