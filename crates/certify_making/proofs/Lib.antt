pub mod Following
pub mod Open
pub mod Work
