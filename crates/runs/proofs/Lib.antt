pub mod Steps
pub mod Running
pub mod Covenants
pub mod OneReading
pub mod Theorems
pub mod Same
pub mod One
