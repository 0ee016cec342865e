pub mod Answers
pub mod Causes
pub mod Grammar
pub mod Public
pub mod Reads
pub mod Refused
pub mod Texts
