pub mod InForce
pub mod Joining
pub mod LookUps
