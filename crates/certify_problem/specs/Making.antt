-- Clauses of certificates, as they are made.
use Rattle.std.specs.Prelude.{◌≡◌, ℕ, ◌+◌, List, ◌++◌, Option, None, length, map, replicate}
use Rattle.std.specs.List.{range_with_len}
use Rattle.form_formula.specs.declared.node.Node.{Node}
use Rattle.form_formula.specs.declared.structure.Signature.{Signature}
use Rattle.ground_terms.specs.declared.node.TermNode.{TermNode}
use Rattle.ground_problem.specs.Facts.{clauses_at, fact_at}
use Rattle.ground_problem.specs.GroundClauses.{AreGroundClauses}
use Rattle.ground_problem.specs.declared.facts.FactLiteral.{FactLiteral}
use Rattle.ground_problem.specs.declared.ground.GroundClauses.{GroundClauses}
use Rattle.ground_problem.specs.declared.spoken.Spoken.{Spoken}
use Rattle.ground_problem.specs.declared.words.Words.{Words}
use Rattle.certify_clauses.specs.declared.listed.ListedClauses.{ListedClauses}
use Rattle.certify_atoms.specs.Atoms.{AreAtomsOf, Both}
use Rattle.certify_atoms.specs.Orders.{AreOrders}
use Rattle.certify_problem.specs.Problems.{literal_of}

-- clauses and atoms in memory are those of clauses on variables, the first of which are facts
pub record IsMadeOf (g : Signature) (nodes : List Node) (terms : List TermNode) (w : Words) (texts : List (List ℕ)) (ground : GroundClauses) (c : ListedClauses) : Type 0 where
  pub clauses : map (λ c. c.items) c.clauses.items ≡ map (map literal_of) (map (λ c. c.items) ground.clauses.items ++ map (λ c. c.items) ground.gates.items)
  pub atoms : List (Option Both)
  pub are_atoms : AreAtomsOf g nodes terms w texts ground.facts.items atoms
  pub gap : ℕ
  pub whole : c.atoms.items ≡ atoms ++ replicate gap None
  pub long : length c.atoms.items ≡ ground.end
  pub terms_are : c.terms ≡ length terms + length texts
  pub fixed_are : c.fixed.items ≡ range_with_len (length terms) (length texts)
  pub numbers_are : c.numbers ≡ length terms + 1

-- and those are of these clauses on facts and of some on the order of numbers
pub record AreMadeOf (g : Signature) (nodes : List Node) (s : Spoken) (texts : List (List ℕ)) (tables : List (List FactLiteral)) (c : ListedClauses) : Type 0 where
  pub orders : List (List FactLiteral)
  pub are_orders : AreOrders g nodes s.made.terms s.words texts orders
  pub ground : GroundClauses
  pub is_ground : AreGroundClauses (map (fact_at nodes s.made.terms) ground.facts.items) s.made nodes (clauses_at nodes s.made.terms (tables ++ orders)) ground.end
      (map (λ c. c.items) ground.clauses.items ++ map (λ c. c.items) ground.gates.items)
  pub made : IsMadeOf g nodes s.made.terms s.words texts ground c
