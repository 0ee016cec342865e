pub mod Public
pub mod Texts
