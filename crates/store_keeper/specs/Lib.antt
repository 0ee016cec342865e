pub mod Changes
pub mod Content
pub mod Keepers
pub mod Public
pub mod Renumbered
pub mod Stored
