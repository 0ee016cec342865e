pub mod Ends
pub mod Lines
pub mod Public
pub mod Replied
pub mod Run
pub mod Served
pub mod Turned
pub mod Words
