pub mod Outcome
pub mod Paper
