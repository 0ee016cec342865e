pub mod Public
pub mod Run
