pub mod Plain
pub mod Seen
pub mod WorkedSpecs
