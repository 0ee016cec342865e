pub mod Laws
pub mod Listed
pub mod Public
pub mod Undeclared
pub mod Weakened
