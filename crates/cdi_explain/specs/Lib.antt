pub mod Counts
pub mod Interceptors
pub mod Lent
pub mod Names
pub mod Near
pub mod Replacers
pub mod Verdicts
