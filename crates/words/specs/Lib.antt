pub mod Words
pub mod Buffers
pub mod Sameness
