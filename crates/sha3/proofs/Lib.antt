pub mod Bits
pub mod Padding
pub mod Sponge
pub mod Constants
pub mod Planes
pub mod One
