-- A lawful model as columns that the decision procedures could find.
use Rattle.std.specs.Prelude.{◌≡◌, ℕ, ◌+◌, cond, true, List, IsTrue, length}
use Rattle.std.specs.List.{range_with_len}
use Rattle.solve_equality.specs.Equality.{is_classes}
use Rattle.solve_order.specs.Difference.{is_assignment}
use Rattle.solve_theory.specs.Pair.{are_models}
use Rattle.form_formula.specs.declared.node.Node.{Node}
use Rattle.form_formula.specs.declared.structure.Signature.{Signature}
use Rattle.ground_terms.specs.declared.node.TermNode.{TermNode}
use Rattle.form_tables.specs.Facts.{is_fact, is_met}
use Rattle.form_tables.specs.Models.{IsLawful, Model, assignment_of}
use Rattle.ground_problem.specs.Words.{vocabulary_at}
use Rattle.ground_problem.specs.declared.words.Words.{Words}
use Rattle.ground_problem.specs.declared.facts.FactNode.{FactNode}
use Rattle.ground_problem.specs.declared.facts.FactLiteral.{FactLiteral}
use Rattle.ground_problem.specs.Facts.{clause_at, fact_at}
use Rattle.certify_clauses.specs.Problem.{Columns, meets_said}
use Rattle.certify_atoms.specs.Atoms.{Both, IsAtomOf}
use Rattle.certify_atoms.specs.Orders.{IsOrder}
use Rattle.certify_atoms.specs.Texts.{StandOnce}

module _ (g : Signature) (nodes : List Node) (terms : List TermNode) (w : Words) (texts : List (List ℕ)) (spare : ℕ → List ℕ) (m : Model) where
  -- the columns are models of both procedures, where the texts are pairwise different; with them each fact's atom says what the fact is
  -- in the model; and the model meets each clause on the order of numbers
  pub record HasColumns : Type 0 where
    pub columns : Columns
    pub are_columns : IsTrue (are_models (is_classes (length terms + length texts) (range_with_len (length terms) (length texts))) (is_assignment (length terms + 1)) columns)
    pub meets_atoms : (p : FactNode) (both : Both) → IsAtomOf g nodes terms w texts p both
        → IsTrue (meets_said columns (cond (is_fact (assignment_of g texts spare m) (fact_at nodes terms p)) both.0 both.1))
    pub meets_orders : (clause : List FactLiteral) → IsOrder g nodes terms w texts clause → is_met (assignment_of g texts spare m) (clause_at nodes terms clause) ≡ true

-- a lawful model has such columns
abbrev pub ModelsHaveColumns : Type 0
ModelsHaveColumns =
    (g : Signature) (nodes : List Node) (terms : List TermNode) (w : Words) (texts : List (List ℕ)) (spare : ℕ → List ℕ) (m : Model)
    → IsLawful g texts spare m (vocabulary_at terms w) → StandOnce texts → HasColumns g nodes terms w texts spare m
