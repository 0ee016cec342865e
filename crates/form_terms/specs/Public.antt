-- The words that speak of the terms over which a formula is instantiated.
pub use Rattle.form_terms.specs.GroundTerms.{GroundTerm, GroundTerms, constant, skolem, field, no_terms, term_and, and_last, list_of, sort_of, source_of, target_of}
pub use Rattle.form_terms.specs.Parts.{Variable, Part, quantifiers, parts_of}
pub use Rattle.form_terms.specs.Universe.{variables_of, terms_of, functions_of, sorts_of, is_needed, HasNeeded, IsFirstTerm, IsAppliedTo, ArisesWithin, IsHerbrandTerm, IsShallowTerm, IsClosedSet}
pub use Rattle.form_terms.specs.Listing.{Lists, HasNoRepeats, first_terms, functions, skolem_variables, terms_after, herbrand_terms, shallow_terms}
pub use Rattle.form_terms.specs.Counts.{count_after, terms_counted, nodes_over, term_count, node_count, shallow_term_count, shallow_node_count, IsTooLarge}
pub use Rattle.form_terms.specs.Limits.{most_terms, most_nodes, most_counted}
pub use Rattle.form_terms.specs.Structures.{IsStructure, IsValueOf, IsEntryOf}
pub use Rattle.form_terms.specs.Passing.{Choice, IsChoice, element_named, IsNamed, HoldsOver, PassesWith, Passes, IsSatisfiableOver}
pub use Rattle.form_terms.specs.Reading.{Reads, Speaks, Agree, AreNamed, atoms_of}
pub use Rattle.form_terms.specs.Satisfying.{Satisfies, SatisfiesWith, IsSatisfiable, leading_elements}
pub use Rattle.form_terms.specs.Cut.{IsNamedThroughout, cut, default_of, kept, leading_places}
