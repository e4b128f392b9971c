pub mod Reading
pub mod Whole
pub mod Counted
pub mod Viewing
pub mod Same
pub mod One
pub mod Items
