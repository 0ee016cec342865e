pub mod InMemory
pub mod Listed
pub mod PathView
pub mod Paths
pub mod Problem
pub mod Public
pub mod Refuted
pub mod Trees
