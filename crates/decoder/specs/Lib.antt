pub mod Held
pub mod Theorems
