pub mod Rules
pub mod Verify
pub mod Paper
pub mod Workers
pub mod Samples
