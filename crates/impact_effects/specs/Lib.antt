pub mod Effects
pub mod Public
