-- The words of this crate's public contracts; the others are those of duty_meaning and type_schema.
pub use Rattle.duty_listing.specs.Uses.{use_data}
