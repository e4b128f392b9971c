pub mod Theorems
pub mod One
mod Step
