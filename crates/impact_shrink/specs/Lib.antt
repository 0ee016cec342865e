pub mod Dropped
pub mod Judged
pub mod Public
pub mod Real
pub mod Shown
pub mod Small
