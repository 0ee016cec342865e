-- Clauses of congruence, as they are made.
use Rattle.std.specs.Prelude.{◌≡◌, ℕ, true, false, List, [], ◌∷◌, ◌++◌, map}
use Rattle.form_formula.specs.declared.node.Node.{Node}
use Rattle.form_formula.specs.declared.structure.Range.{Range}
use Rattle.form_formula.specs.declared.structure.Range.TheVariants as range
use Rattle.ground_terms.specs.declared.node.TermNode.{TermNode}
use Rattle.form_tables.specs.Facts.{Fact, not_so}
use Rattle.ground_instances.specs.declared.input.Value.TheVariants.{Term}
use Rattle.ground_problem.specs.declared.facts.FactNode.TheVariants.{There, Same, Raised}
use Rattle.ground_problem.specs.declared.facts.FactLiteral.{FactLiteral}
use Rattle.ground_problem.specs.Facts.{clause_at}

-- that two terms are not both there and the same
abbrev pub apart_literals : ℕ → ℕ → List FactLiteral
apart_literals t u =
    record { fact = There t; plus = false } ∷ record { fact = There u; plus = false } ∷ record { fact = Same (Term t) (Term u); plus = false } ∷ []

-- the clauses on two values of a function that gives this
abbrev pub value_literals : Range → ℕ → ℕ → List FactLiteral → List (List FactLiteral)
value_literals (range.Rec sort) x y ps = []
value_literals range.Flag x y ps = ((record { fact = Raised x; plus = false } ∷ ps) ++ record { fact = Raised y; plus = true } ∷ []) ∷ []
value_literals range.Num x y ps = (ps ++ record { fact = Same (Term x) (Term y); plus = true } ∷ []) ∷ []
value_literals range.Str x y ps = (ps ++ record { fact = Same (Term x) (Term y); plus = true } ∷ []) ∷ []

-- literals that facts are none were put at the end
pub record AddsPremises (nodes : List Node) (terms : List TermNode) (old new : List FactLiteral) (facts : List Fact) : Type 0 where
  pub more : List FactLiteral
  pub whole : new ≡ old ++ more
  pub are : clause_at nodes terms more ≡ map not_so facts
