-- The words of this crate's public contracts.
pub use Rattle.duty_builder.specs.Values.{schema_in, written_upto, written_in, who_data, scene_data, end_data, source_data, part_data}
