pub mod Differences
pub mod Ordered
pub mod Putting
pub mod Storing
