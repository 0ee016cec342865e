pub mod Answer
pub mod Ends
pub mod Headline
pub mod Public
pub mod Report
pub mod Run
pub mod Words
