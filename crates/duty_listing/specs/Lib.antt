pub mod Duties
pub mod Kinds
pub mod Public
pub mod Uses
