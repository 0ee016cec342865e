pub mod Answers
pub mod Causes
pub mod Firsts
pub mod Public
pub mod Reading
