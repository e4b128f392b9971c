pub mod Outcomes
pub mod Many
pub mod Same
pub mod One
