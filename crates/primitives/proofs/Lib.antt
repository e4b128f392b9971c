pub mod Theorems
pub mod One
pub mod Equal
