pub mod Public
pub mod Tried
pub mod Verdicts
