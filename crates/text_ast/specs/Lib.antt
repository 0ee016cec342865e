pub mod Limits
pub mod Pieces
pub mod Public
pub mod Rooms
pub mod Words
