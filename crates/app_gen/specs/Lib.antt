pub mod Generated
pub mod Public
