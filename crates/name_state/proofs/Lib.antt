pub mod Text
pub mod Sets
pub mod Bound
pub mod Theorems
pub mod One
