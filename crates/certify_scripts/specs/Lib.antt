pub mod Certificates
pub mod Passed
pub mod Public
pub mod Rechecked
pub mod Sound
