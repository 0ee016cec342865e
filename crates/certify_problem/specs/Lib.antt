pub mod Grounded
pub mod Listing
pub mod Making
pub mod Problems
pub mod Public
