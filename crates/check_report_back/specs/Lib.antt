pub mod Back
pub mod Printed
pub mod Public
pub mod Scripts
pub mod Told
