mod Common
mod RedLemmas
mod SortLemmas
