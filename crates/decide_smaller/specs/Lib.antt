pub mod Fitting
pub mod Picks
pub mod Public
