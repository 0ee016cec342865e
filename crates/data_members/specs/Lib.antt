pub mod Has
pub mod Public
pub mod Sets
pub mod Tests
pub mod Touching
pub mod Variables
