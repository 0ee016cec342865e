pub mod Putting
pub mod Paying
pub mod Joining
