pub mod Changed
pub mod CommandLaw
pub mod Counted
pub mod Missing
pub mod WorkedCommands
