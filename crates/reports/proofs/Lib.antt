pub mod Line
pub mod Judgement
pub mod Theorems
pub mod One
