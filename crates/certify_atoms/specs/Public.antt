-- The words of this crate's public contracts.
pub use Rattle.certify_atoms.specs.Atoms.{Both, difference, IsTold, IsTextTerm, IsTextLiteral, IsNumberTerm, IsNumberLiteral, IsElement, IsNumberSide, AreElements, AreTexts, IsSameAtom, IsBelowAtom, IsAtomOf, AreAtomsOf}
pub use Rattle.certify_atoms.specs.Orders.{is_so, is_not_so, order_clauses, IsNumber, IsOrder, AreOrders}
pub use Rattle.certify_atoms.specs.Columns.{HasColumns, ModelsHaveColumns}
pub use Rattle.certify_atoms.specs.Texts.{AllAreTexts, StandOnce}
