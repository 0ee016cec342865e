pub mod Agree
pub mod Cleared
pub mod Kept
pub mod Picked
pub mod Sorts
pub mod Sound
