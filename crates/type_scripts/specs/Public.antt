-- The words of this crate's public contracts; among them, how large the formulas of obligations are.
pub use Rattle.type_scripts.specs.Counted.{counted, step_of}
pub use Rattle.type_scripts.specs.Asked.{IsOne, AllowedIsCounted, ReachIsCounted}
pub use Rattle.type_scripts.specs.Small.{PolicyIsBounded, GivenAreBounded, FieldIsBounded, ModelIsBounded, CommandIsBounded, IsBounded, FormulasAreSmall}
pub use Rattle.type_scripts.specs.Typed.{most_formula_nodes, TypedFormulasAreSmall}
pub use Rattle.type_scripts.specs.Worked.{WorkedRemoved}
