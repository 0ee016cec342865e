pub mod Causes
pub mod Printable
pub mod Public
pub mod Reading
pub mod Spelled
pub mod Words
