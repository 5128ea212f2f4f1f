pub mod Around
pub mod Edges
pub mod Nodes
pub mod Red
pub mod RedLaws
pub mod SamePoint
