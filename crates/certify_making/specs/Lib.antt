pub mod Faults
pub mod Following
pub mod Open
pub mod Public
pub mod Texts
