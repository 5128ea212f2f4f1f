mod Common
mod ListedLemmas
pub mod AskedLemmas
pub mod PartLemmas
mod UserLemmas
mod SuspectLemmas
mod GoneLemmas
mod LiveLemmas
mod ReaderLemmas
mod InterceptorLemmas
mod InterceptorStayLemmas
mod TouchedChainLemmas
mod BoundLemmas
mod ChainSuspectLemmas
pub mod WantedPlaceLemmas
mod ChainGoneLemmas
mod AroundLemmas
mod LiveChainLemmas
mod EventAskedLemmas
mod EventSuspectLemmas
mod EventGoneLemmas
mod KnownLemmas
mod MovedLemmas
