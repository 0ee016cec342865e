pub mod Nests
pub mod Parts
pub mod Pieces
pub mod Public
pub mod Reads
