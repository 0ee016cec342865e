pub mod Tests
pub mod Named
pub mod Orders
pub mod Soundness
