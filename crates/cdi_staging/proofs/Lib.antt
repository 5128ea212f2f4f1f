mod Common
mod PositionLemmas
mod AnswerableLemmas
mod ProductLemmas
mod BesideLemmas
mod ChosenLemmas
mod ClassLemmas
pub mod NotifiedLemmas
mod PartLemmas
mod SoundLemmas
mod LinkLemmas
pub mod LookupLemmas
pub mod SceneLemmas
pub mod Laws
