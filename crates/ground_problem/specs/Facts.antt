-- Facts by numbers of ground terms, and clauses on them.
use Rattle.std.specs.Prelude.{◌≡◌, List, ◌++◌, map}
use Rattle.form_formula.specs.declared.node.Node.{Node}
use Rattle.ground_terms.specs.declared.node.TermNode.{TermNode}
use Rattle.ground_terms.specs.Nodes.{term_of}
use Rattle.form_tables.specs.Facts.{Noun, Fact, there, same, below, raised, related, empty, Literal, Clause}
use Rattle.ground_instances.specs.declared.input.Value.{Value}
use Rattle.ground_instances.specs.Inputs.{value_at}
use Rattle.ground_problem.specs.InputFacts.{noun_of}
use Rattle.ground_problem.specs.Words.{pair_at}
use Rattle.ground_problem.specs.declared.facts.FactNode.{FactNode}
use Rattle.ground_problem.specs.declared.facts.FactNode.TheVariants.{There, Same, Below, Raised, Related, Empty}
use Rattle.ground_problem.specs.declared.facts.FactLiteral.{FactLiteral}

module _ (nodes : List Node) (terms : List TermNode) where
  abbrev pub noun_at : Value → Noun
  noun_at v = noun_of (value_at nodes terms v)

  -- the fact, where numbers stand for the terms of two arenas
  abbrev pub fact_at : FactNode → Fact
  fact_at (There id) = there (term_of terms id)
  fact_at (Same v w) = same (noun_at v) (noun_at w)
  fact_at (Below v w) = below (noun_at v) (noun_at w)
  fact_at (Raised id) = raised (term_of terms id)
  fact_at (Related p) = related (pair_at terms p)
  fact_at (Empty sort) = empty sort

  abbrev pub literal_at : FactLiteral → Literal
  literal_at l = record { fact = fact_at l.fact; sign = l.plus }

  abbrev pub clause_at : List FactLiteral → Clause
  clause_at c = map literal_at c

  abbrev pub clauses_at : List (List FactLiteral) → List Clause
  clauses_at cs = map clause_at cs

  -- these clauses were put at the end
  pub record AreAdded (old new : List (List FactLiteral)) (cs : List Clause) : Type 0 where
    pub more : List (List FactLiteral)
    pub whole : new ≡ old ++ more
    pub are : clauses_at more ≡ cs
