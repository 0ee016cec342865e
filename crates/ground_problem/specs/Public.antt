-- The words of this crate's public contracts; the others are those of ground_gates, ground_instances, ground_terms, form_tables and form_formula.
pub use Rattle.ground_problem.specs.Facts.{noun_at, fact_at, literal_at, clause_at, clauses_at}
pub use Rattle.ground_problem.specs.Says.{ground_term, function_at, value_in, says}
pub use Rattle.ground_problem.specs.InputFacts.{noun_of, atom_facts, input_facts, are_facts}
pub use Rattle.ground_problem.specs.GroundClauses.{HaveFacts, IsVariable, AreVariables, IsClauseFor, AreTied, IsTableClause, AreGroundClauses}
pub use Rattle.ground_problem.specs.Words.{pair_at, vocabulary_at, ArePairs, IsWords}
pub use Rattle.ground_problem.specs.Inputs.{literal_range, IsOfRange, IsOfSort, IsToldAt, IsToldInput, IsTermValue, RelatesTerms, RelateTerms, IsFieldAt, IsFieldOf, AreFieldsOf}
pub use Rattle.ground_problem.specs.Spoken.{IsSpoken}
