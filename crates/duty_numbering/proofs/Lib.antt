pub mod PlaceLaws
pub mod SignatureLaws
pub mod SpotLaws
pub mod StructureLaws
