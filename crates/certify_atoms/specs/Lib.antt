pub mod Atoms
pub mod Columns
pub mod Orders
pub mod Public
pub mod Texts
