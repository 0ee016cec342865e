pub mod Coming
pub mod Parts
pub mod Public
pub mod Tests
pub mod Views
