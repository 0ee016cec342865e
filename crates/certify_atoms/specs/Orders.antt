-- Numbers are ordered: clauses on facts that say so of the equalities of numbers among them.
use Rattle.std.specs.Prelude.{ℕ, ℤ, true, false, List, [], ◌∷◌, Contains}
use Rattle.form_formula.specs.declared.node.Node.{Node}
use Rattle.form_formula.specs.declared.structure.Signature.{Signature}
use Rattle.ground_terms.specs.declared.node.TermNode.{TermNode}
use Rattle.ground_instances.specs.declared.input.Value.{Value}
use Rattle.ground_problem.specs.declared.words.Words.{Words}
use Rattle.ground_problem.specs.declared.facts.FactNode.{FactNode}
use Rattle.ground_problem.specs.declared.facts.FactNode.TheVariants.{Same, Below}
use Rattle.ground_problem.specs.declared.facts.FactLiteral.{FactLiteral}
use Rattle.certify_atoms.specs.Atoms.{IsNumberSide}

abbrev pub is_so : FactNode → FactLiteral
is_so fact = record { fact = fact; plus = true }

abbrev pub is_not_so : FactNode → FactLiteral
is_not_so fact = record { fact = fact; plus = false }

-- two numbers are the same or one is below the other, and not both
abbrev pub order_clauses : Value → Value → List (List FactLiteral)
order_clauses v u =
    (is_so (Same v u) ∷ is_so (Below v u) ∷ is_so (Below u v) ∷ []) ∷ (is_not_so (Same v u) ∷ is_not_so (Below v u) ∷ []) ∷ (is_not_so (Same v u) ∷ is_not_so (Below u v) ∷ []) ∷ []

module _ (g : Signature) (nodes : List Node) (terms : List TermNode) (w : Words) (texts : List (List ℕ)) where
  -- a value is a number
  abbrev pub IsNumber : Value → Type 0
  IsNumber v = (x : ℕ) × (o : ℤ) × IsNumberSide g nodes terms w texts v x o

  -- the clause is one of those on two numbers
  pub record IsOrder (clause : List FactLiteral) : Type 0 where
    pub v : Value
    pub u : Value
    pub left : IsNumber v
    pub right : IsNumber u
    pub listed : Contains (order_clauses v u) clause

  -- and so is each of a list
  abbrev pub AreOrders : List (List FactLiteral) → Type 0
  AreOrders clauses = (clause : List FactLiteral) → Contains clauses clause → IsOrder clause
