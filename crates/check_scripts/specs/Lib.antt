pub mod Agree
pub mod FailsBy
pub mod Outcomes
pub mod Picked
pub mod Public
pub mod Safe
pub mod Sound
pub mod Views
