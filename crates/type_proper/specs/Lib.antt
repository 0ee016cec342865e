pub mod Fits
pub mod Literals
pub mod Public
pub mod Scripts
pub mod Shown
pub mod Specs
pub mod Steady
