pub mod Broken
pub mod Columns
pub mod Congruent
pub mod Few
pub mod Firsts
pub mod Keys
pub mod Public
pub mod Settled
