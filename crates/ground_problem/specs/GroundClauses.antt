-- The clauses that say that a formula holds at ground terms: their first variables are facts, and the others are those of the clauses of gates.
use Rattle.std.specs.Prelude.{◌≡◌, ℕ, Bool, ◌⊎◌, List, [], ◌∷◌, Some, length, Contains, slice_get, slice_index_or}
use Rattle.form_formula.specs.declared.node.Node.{Node}
use Rattle.ground_gates.specs.declared.gate.Literal.{Literal}
use Rattle.ground_gates.specs.Clauses.{IsEncoding}
use Rattle.form_tables.specs.Facts.{Fact, Assignment, Clause, is_fact}
use Rattle.ground_instances.specs.declared.input.Input.{Input}
use Rattle.ground_instances.specs.declared.instantiation.Instances.{Instances}
use Rattle.ground_problem.specs.InputFacts.{input_facts}

module _ (facts : List Fact) where
  -- the variables of facts have the values that an assignment gives these
  abbrev pub HaveFacts : Assignment → (ℕ → Bool) → Type 0
  HaveFacts a values = (k : ℕ) (p : Fact) → slice_get facts k ≡ Some p → values k ≡ is_fact a p

  -- the variable is one of the fact; and those of two lists, one by one
  abbrev pub IsVariable : ℕ → Fact → Type 0
  IsVariable x p = slice_get facts x ≡ Some p

  abbrev pub AreVariables : List ℕ → List Fact → Type 0
  AreVariables [] [] = Unit {0}
  AreVariables [] (p ∷ ps) = ⊥
  AreVariables (x ∷ xs) [] = ⊥
  AreVariables (x ∷ xs) (p ∷ ps) = IsVariable x p × AreVariables xs ps

  -- the clause on variables is the one on facts
  abbrev pub IsClauseFor : List Literal → Clause → Type 0
  IsClauseFor [] [] = Unit {0}
  IsClauseFor [] (p ∷ ps) = ⊥
  IsClauseFor (l ∷ ls) [] = ⊥
  IsClauseFor (l ∷ ls) (p ∷ ps) = IsVariable l.var p.fact × (l.plus ≡ p.sign) × IsClauseFor ls ps

  module _ (made : Instances) (nodes : List Node) where
    -- each input has the variables of the facts that it stands for
    pub record AreTied (inputs : List (List ℕ)) : Type 0 where
      pub one_each : length inputs ≡ length made.inputs
      pub each : (k : ℕ) (i : Input) → slice_get made.inputs k ≡ Some i
          → (ps : List Fact) × (input_facts nodes made.terms i ≡ Some ps) × AreVariables (slice_index_or inputs k []) ps

    module _ (cs : List Clause) where
      abbrev pub IsTableClause : List Literal → Type 0
      IsTableClause clause = (c : Clause) × Contains cs c × IsClauseFor clause c

      -- the list has the clauses that say that the gate of the whole formula is true, those of a list of clauses on facts, and no others
      pub record AreGroundClauses (end : ℕ) (clauses : List (List Literal)) : Type 0 where
        pub inputs : List (List ℕ)
        pub tied : AreTied inputs
        pub gates : List (List Literal)
        pub encoding : IsEncoding (length facts) end inputs made.gates made.root gates
        pub listed : (clause : List Literal) → Contains gates clause → Contains clauses clause
        pub tables : (c : Clause) → Contains cs c → (clause : List Literal) × IsClauseFor clause c × Contains clauses clause
        pub only : (clause : List Literal) → Contains clauses clause → Contains gates clause ⊎ IsTableClause clause
