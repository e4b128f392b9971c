pub mod Kind
pub mod Covenant
pub mod Written
pub mod Items
pub mod Paper
pub mod Workers
pub mod Theorems
