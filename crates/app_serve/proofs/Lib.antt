pub mod Asking
pub mod LinesLemmas
pub mod Replying
pub mod RunLemmas
pub mod Serving
pub mod Taking
pub mod Turning
