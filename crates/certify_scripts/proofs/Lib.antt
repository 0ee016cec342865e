pub mod PartLaws
pub mod Sound
