mod Common
mod CircleLemmas
mod ItselfLemmas
mod BindingLemmas
mod PlaceLemmas
mod OwnLemmas
mod SparedLemmas
mod BeanLemmas
mod OfferLemmas
mod ApartLemmas
mod WrittenLemmas
mod UnconcernedLemmas
mod Laws
mod AskedLemmas
mod UnmovedLemmas
mod StillLemmas
pub mod StayLemmas
mod PositionLemmas
pub mod TogetherLemmas
mod ForgottenLemmas
pub mod SettledLemmas
pub mod KeptLemmas
