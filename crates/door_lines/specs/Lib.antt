pub mod Attempts
pub mod Finds
pub mod Lines
pub mod Public
pub mod Reading
pub mod Sources
pub mod Taking
pub mod Turns
