pub mod Run
pub mod Covenants
pub mod Paper
pub mod OneReading
pub mod Theorems
