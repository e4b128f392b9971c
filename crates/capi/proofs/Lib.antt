pub mod One
pub mod Named
