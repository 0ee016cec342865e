pub mod Chains
pub mod Negations
pub mod Places
pub mod Public
pub mod Spending
pub mod Values
