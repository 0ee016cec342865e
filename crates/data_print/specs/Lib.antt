pub mod Public
pub mod Texts
pub mod Told
