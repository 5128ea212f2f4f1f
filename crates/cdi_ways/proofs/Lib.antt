mod Common
pub mod CircleLemmas
pub mod LeavingLemmas
pub mod ListLemmas
pub mod ReachLemmas
pub mod SearchLemmas
pub mod StepLemmas
pub mod WayLemmas
