pub mod Checks
pub mod Items
pub mod Paper
pub mod Workers
