pub mod Causes
pub mod Formula
pub mod Public
pub mod Spelling
