pub mod State
pub mod Paper
pub mod Theorems
