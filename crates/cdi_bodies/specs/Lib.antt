pub mod Flags
pub mod Within
pub mod Shown
pub mod Book
pub mod PromiseText
