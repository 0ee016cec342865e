-- Words that are among others, and clauses that are made of them.
use Rattle.std.specs.Prelude.{ℕ, All, Contains, List}
use Rattle.form_formula.specs.declared.node.Node.{Node}
use Rattle.form_formula.specs.declared.structure.Signature.{Signature}
use Rattle.ground_terms.specs.declared.node.TermNode.{TermNode}
use Rattle.ground_problem.specs.declared.words.PairNode.{PairNode}
use Rattle.ground_problem.specs.declared.words.Words.{Words}
use Rattle.ground_problem.specs.declared.facts.FactLiteral.{FactLiteral}
use Rattle.decide_models.specs.declared.found.Found.{Found}
use Rattle.decide_reading.specs.Broken.{IsBroken}
use Rattle.decide_reading.specs.Congruent.{AreCongruences}

-- all of the words are among the whole
pub record IsPart (whole part : Words) : Type 0 where
  pub named : (id : ℕ) → Contains part.named.items id → Contains whole.named.items id
  pub others : (id : ℕ) → Contains part.others.items id → Contains whole.others.items id
  pub pairs : (p : PairNode) → Contains part.pairs.items p → Contains whole.pairs.items p

-- clauses of congruence of these words that what was found breaks
pub record AreBrokenOnes (g : Signature) (nodes : List Node) (terms : List TermNode) (w : Words) (found : Found) (clauses : List (List FactLiteral)) : Type 0 where
  pub congruences : AreCongruences g nodes terms w clauses
  pub broken : All (IsBroken terms found w.pairs.items) clauses
