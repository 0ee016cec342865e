pub mod LitBuf
pub mod Models
pub mod Pair
pub mod PairLaw
pub mod PairSides
pub mod Public
