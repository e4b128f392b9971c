pub mod Slice
pub mod Fixed
pub mod Compact
pub mod Back
pub mod Found
pub mod Theorems
pub mod Same
pub mod One
