pub mod Counted
pub mod Public
