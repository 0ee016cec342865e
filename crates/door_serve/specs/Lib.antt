pub mod Changing
pub mod Doing
pub mod DoorState
pub mod Kept
pub mod Laws
pub mod Moving
pub mod Public
pub mod Stepping
