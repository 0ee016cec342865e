pub mod Links
pub mod Lists
pub mod Rings
pub mod Public
