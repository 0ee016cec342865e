-- The words of this crate's public contracts, and those on formulas that the crates above speak in.
pub use Rattle.form_formula.specs.Trees.{Term, bound, num, str, app, Formula, yes, no, equal, less, has, flag, present, negation, both, either, exists, forall}
pub use Rattle.form_formula.specs.Nodes.{Tree, term, formula, tree_from, trees_of, tree_of, term_of, formula_of, is_term, kind_at, IsTerm, IsFormula, StandsFor, IsPlaced, ArePlaced, IsBelow}
pub use Rattle.form_formula.specs.Added.{Extends, IsAdded}
pub use Rattle.form_formula.specs.Signature.{has_range, is_signature}
pub use Rattle.form_formula.specs.Over.{IsFunction, HasRange, AreComparable, IsOver, IsClosedTerm, IsClosed}
pub use Rattle.form_formula.specs.Truth.{size_of, elements, entry, relates, element_of, number_of, text_of, is_raised, both_pass, are_equal, value_of, element_at, entry_at, is_true_value, truth, IsEquallyTrue}
pub use Rattle.form_formula.specs.NormalForm.{signed_form, normal_form, IsAtom, IsNormal}
