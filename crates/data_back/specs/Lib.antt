pub mod Back
pub mod Laws
pub mod Printed
pub mod Public
pub mod Reading
pub mod Standard
