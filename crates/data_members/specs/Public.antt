-- The public contracts speak in the words of `data_meaning`, `type_schema` and `data_records`, and in these.
pub use Rattle.data_members.specs.Sets.{is_one_of, principal_cmp, Denotes}
pub use Rattle.data_members.specs.Touching.{cell_cmp, IsSetOf}
pub use Rattle.data_members.specs.Variables.{env_data}
