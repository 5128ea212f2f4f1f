mod Common
mod Runs
mod Ran
mod Serving
mod Alike
mod Open
mod Trying
pub mod Taking
mod Feeding
mod Going
pub mod StepLemmas
