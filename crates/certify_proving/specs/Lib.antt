pub mod Begun
pub mod Limits
pub mod Parts
pub mod Proved
pub mod Public
