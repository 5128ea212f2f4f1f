pub mod Sets
pub mod Bindings
pub mod Chains
pub mod Sees
pub mod Conflicts
pub mod Lent
