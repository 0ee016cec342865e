pub mod Applied
pub mod Laws
pub mod Notes
pub mod Public
pub mod Settling
