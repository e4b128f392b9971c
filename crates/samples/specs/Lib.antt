pub mod Vectors
pub mod Table
pub mod Lines
pub mod Viewed
