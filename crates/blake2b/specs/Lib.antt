pub mod Blake2b
pub mod Workers
