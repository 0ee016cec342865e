pub mod AsUpdates
pub mod Weakenings
