pub mod Name
pub mod Link
pub mod Theorems
