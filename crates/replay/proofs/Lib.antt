pub mod Entries
pub mod Laying
