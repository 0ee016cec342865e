pub mod Added
pub mod Runs
pub mod Tables
