-- Clauses on variables, of which the first are facts.
use Rattle.std.specs.Prelude.{◌≡◌, ℕ, ◌+◌, ◌<◌, All, Bool, false, List, ◌++◌, Some, Contains, IsTrue, length, map, slice_get, unwrap_or}
use Rattle.std.specs.List.{list_all, range_with_len}
use Rattle.form_formula.specs.declared.structure.Signature.{Signature}
use Rattle.ground_gates.specs.Clauses.{meets_clause}
use Rattle.decide_search.specs.Mixed.{Atom, IsMixed}
use Rattle.decide_search.specs.declared.mixture.Mixture.{Mixture}
use Rattle.form_tables.specs.Models.{IsLawful, Model, assignment_of}
use Rattle.ground_problem.specs.Words.{vocabulary_at}
use Rattle.ground_problem.specs.declared.words.Words.{Words}
use Rattle.decide_search.specs.Encoding.{AreAtomsFor}
use Rattle.form_formula.specs.declared.node.Node.{Node}
use Rattle.ground_gates.specs.declared.gate.Literal.{Literal}
use Rattle.solve_solver.specs.declared.literal.PLit.{PLit}
use Rattle.ground_terms.specs.declared.node.TermNode.{TermNode}
use Rattle.form_tables.specs.Facts.{Assignment, is_fact}
use Rattle.ground_problem.specs.declared.facts.FactNode.{FactNode}
use Rattle.ground_problem.specs.Facts.{fact_at}

-- the solver's literal
abbrev pub plit_of : Literal → PLit
plit_of l = record { var = l.var; plus = l.plus }

-- the variables of facts have the values that an assignment gives these
abbrev pub HaveValues : List Node → List TermNode → List FactNode → Assignment → (ℕ → Bool) → Type 0
HaveValues nodes terms facts a values = (k : ℕ) (p : FactNode) → slice_get facts k ≡ Some p → values k ≡ is_fact a (fact_at nodes terms p)

-- the variables of a clause are below a bound
abbrev pub AreBelow : ℕ → List Literal → Type 0
AreBelow bound clause = All (λ l. l.var < bound) clause

-- the values meet the clauses
pub record AreSolved (clauses : List (List Literal)) (m : Mixture) : Type 0 where
  pub meet : IsTrue (list_all (meets_clause (λ x. unwrap_or (slice_get m.values.items x) false)) clauses)

module _ (g : Signature) (nodes : List Node) (terms : List TermNode) (w : Words) (texts : List (List ℕ)) where
  -- the clauses are on the variables below, and no assignment meets them with those of the halves, and has a model
  pub record IsPlainlyMixed (vars : ℕ) (facts halves : List FactNode) (clauses : List (List Literal)) (links : List (List PLit)) (atoms : List Atom) : Type 0 where
    pub are : AreAtomsFor g nodes terms w texts vars facts halves atoms
    pub bounded : (c : List Literal) (l : Literal) → Contains clauses c → Contains c l → l.var < vars
    pub none : (assignment : List Bool)
        → IsMixed (length terms + length texts) (range_with_len (length terms) (length texts)) (length terms + 1) (vars + length halves) (map (map plit_of) clauses ++ links) atoms assignment → ⊥

  -- no values meet the clauses in which facts are as in a lawful model
  abbrev pub IsNowhere : List FactNode → List (List Literal) → Type 0
  IsNowhere facts clauses =
      (spare : ℕ → List ℕ) (m : Model) (values : ℕ → Bool) → IsLawful g texts spare m (vocabulary_at terms w)
      → HaveValues nodes terms facts (assignment_of g texts spare m) values → IsTrue (list_all (meets_clause values) clauses) → ⊥
