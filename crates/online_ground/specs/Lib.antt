pub mod Grounds
pub mod Public
