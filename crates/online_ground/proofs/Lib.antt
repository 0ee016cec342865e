pub mod Giving
pub mod Loops
