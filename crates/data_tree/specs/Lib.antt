pub mod Answers
pub mod Causes
pub mod Grammar
pub mod Literals
pub mod Public
pub mod Texts
