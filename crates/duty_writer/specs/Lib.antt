pub mod Made
pub mod Public
pub mod Terms
