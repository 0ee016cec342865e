pub mod FindLaws
pub mod Joined
pub mod Seen
