pub mod AnsweredLemmas
pub mod GlanceLemmas
pub mod Laws
pub mod ProxyLemmas
pub mod PushLemmas
pub mod RecordLemmas
pub mod RestLemmas
pub mod SpecializedLemmas
