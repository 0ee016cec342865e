pub mod Elements
pub mod Numbers
pub mod Places
pub mod Public
pub mod Signatures
