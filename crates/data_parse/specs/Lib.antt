pub mod Bare
pub mod Public
pub mod Reads
pub mod Refused
