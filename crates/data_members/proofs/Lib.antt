pub mod CellReads
pub mod Finds
pub mod Founds
pub mod Gathers
pub mod Levels
pub mod Loops
pub mod Orders
