-- The words that speak of tables, and of the clauses that say which come from a structure.
pub use Rattle.form_tables.specs.Vocabulary.{Pair, Vocabulary, told, term_at, IsFunctionAt, IsValued, CoversTerm, CoversFunction, CoversPair, CoversAtom, AreTerms, IsDecidedBy, IsFormed, IsOther, IsVocabulary, AreFormed, only}
pub use Rattle.form_tables.specs.Table.{Table, is_there, IsSame, AreSame, value_at, holds}
pub use Rattle.form_tables.specs.Consistent.{range_of, IsOfRange, AreFunctions, AreVariables, AreRelations, AreSorts, IsConsistent}
pub use Rattle.form_tables.specs.Made.{value_in, table_of, class_of, classes, made_size, place, element, default, made_value, blank, made_entry, made_function, made_relation, made, made_choice}
pub use Rattle.form_tables.specs.Facts.{Noun, Fact, Assignment, Literal, Clause, so, not_so, implied, there_of, noun_at, facts_at, table_for, noun_value, is_fact, is_literal, is_met}
pub use Rattle.form_tables.specs.Clauses.{IsTyped, one_and_same, all_same, base_clauses, congruence_clauses}
pub use Rattle.form_tables.specs.Models.{Model, IsNumeric, noun_number, text_for, value_for, assignment_of, IsWithoutText, IsSpare, IsLawful}
