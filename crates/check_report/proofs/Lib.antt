pub mod Grown
pub mod Searches
