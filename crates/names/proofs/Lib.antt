pub mod Hash
pub mod Same
pub mod One
pub mod Spelled
