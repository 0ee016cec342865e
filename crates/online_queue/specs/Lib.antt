pub mod Records
pub mod Waiting
pub mod Sound
pub mod Public
