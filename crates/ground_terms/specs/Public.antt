-- The words of this crate's public contracts; the others are those of form_terms and form_formula.
pub use Rattle.ground_terms.specs.Standing.{terms_at, AreOnes, AreTermsAt}
pub use Rattle.ground_terms.specs.TermLists.{terms_in}
pub use Rattle.ground_terms.specs.Limited.{IsRefusal}
pub use Rattle.ground_terms.specs.Variables.{variable_at}
pub use Rattle.ground_terms.specs.Nodes.{TermTree, one, some, tree_from, trees_of, tree_of, term_of, list_of, is_one, kind_at, IsOne, IsList, IsPlaced, ArePlaced, IsBelow, Extends, IsAdded, AreOnce}
