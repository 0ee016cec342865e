-- The words of this crate's public contracts; the others are those of duty_meaning.
pub use Rattle.duty_numbering.specs.Numbers.{spot_of, Numbers, numbers_of, sort_number, function_number, relation_number}
pub use Rattle.duty_numbering.specs.Signatures.{TypesAreThere, StartTypesAreThere}
