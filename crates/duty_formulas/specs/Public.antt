-- The words of this crate's public contracts, beside those of duty_meaning, type_schema and form_formula.
pub use Rattle.duty_formulas.specs.Limits.{largest_formula}
