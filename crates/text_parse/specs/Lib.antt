pub mod Items
pub mod Judged
pub mod Parts
pub mod Public
pub mod Refused
pub mod Turns
