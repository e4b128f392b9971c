pub mod Comparing
pub mod Judging
pub mod Same
pub mod One
