pub mod Sheet
pub mod Viewer
pub mod Workers
pub mod Paper
pub mod Theorems
