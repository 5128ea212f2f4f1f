mod CountLemmas
mod FarLemmas
mod InterceptorLemmas
mod NameLemmas
mod NearLemmas
mod PriorityLemmas
mod ReplacerLemmas
mod VerdictLemmas
