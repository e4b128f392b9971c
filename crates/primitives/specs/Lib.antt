pub mod Units
pub mod Outpoints
pub mod Theorems
