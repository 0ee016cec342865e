pub mod InTurn
pub mod Models
pub mod NewNames
pub mod Public
pub mod Sizes
pub mod Specs
pub mod Worked
