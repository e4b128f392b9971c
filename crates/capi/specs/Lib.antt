pub mod Flat
pub mod Amounts
pub mod States
pub mod Sheet
pub mod Reading
pub mod Items
pub mod Linkage
pub mod Version
