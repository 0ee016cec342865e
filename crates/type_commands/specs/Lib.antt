pub mod Changes
pub mod CommandLaw
pub mod Commands
pub mod Public
pub mod Resolved
pub mod Scripts
pub mod Users
pub mod Worked
