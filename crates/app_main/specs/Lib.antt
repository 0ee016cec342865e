pub mod Arguments
pub mod Public
