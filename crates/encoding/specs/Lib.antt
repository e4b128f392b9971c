pub mod Wire
pub mod Joined
pub mod Paper
pub mod Theorems
