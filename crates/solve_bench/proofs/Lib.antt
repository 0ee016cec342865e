pub mod Causes
pub mod Spelling
