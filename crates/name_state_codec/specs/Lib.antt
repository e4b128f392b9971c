pub mod Written
pub mod Read
pub mod Paper
pub mod Theorems
pub mod Workers
