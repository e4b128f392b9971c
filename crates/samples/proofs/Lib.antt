pub mod Rule
pub mod Table
