pub mod Name
pub mod Paper
pub mod Blind
