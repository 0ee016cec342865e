pub mod Asked
pub mod Counted
pub mod Counting
pub mod Public
pub mod Running
pub mod Small
pub mod Typed
pub mod Worked
