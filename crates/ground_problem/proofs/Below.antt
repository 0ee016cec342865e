-- The variables of the clauses are below their end.
use Rattle.std.proofs.Common.{ℕ, ◌<◌, inl, inr, List, [], ◌∷◌, length, subst, arith, Contains}
use Rattle.std.proofs.lemmas.Option.{slice_get_within}
use Rattle.form_formula.specs.declared.node.Node.{Node}
use Rattle.ground_gates.specs.declared.gate.Literal.{Literal}
use Rattle.form_terms.proofs.Lists.{Contains-cons_cases, Contains-none}
use Rattle.form_tables.specs.Facts.{Fact, Clause}
use Rattle.ground_instances.specs.declared.instantiation.Instances.{Instances}
use Rattle.ground_problem.specs.GroundClauses.{IsClauseFor, AreGroundClauses}

clause_below : (facts : List Fact) (clause : List Literal) (c : Clause) → IsClauseFor facts clause c → (l : Literal) → Contains clause l → l.var < length facts
clause_below facts [] [] h l here = Contains-none l here
clause_below facts [] (p ∷ ps) h l here = absurd h
clause_below facts (x ∷ xs) [] h l here = absurd h
clause_below facts (x ∷ xs) (p ∷ ps) h l here =
    let P : Literal → Type 0 = λ l. l.var < length facts in
    elim (Contains-cons_cases x xs l here) [
      | inl same ↦ subst P same (slice_get_within facts x.var p.fact h.0)
      | inr later ↦ clause_below facts xs ps h.2 l later
    ]

pub ground_below : (cs : List Clause) (nodes : List Node) (made : Instances) (facts : List Fact) (end : ℕ) (clauses : List (List Literal))
    → AreGroundClauses facts made nodes cs end clauses → (clause : List Literal) (l : Literal) → Contains clauses clause → Contains clause l → l.var < end
ground_below cs nodes made facts end clauses listed clause l c here =
    elim (listed.only clause c) [
      | inl own ↦ listed.encoding.below clause l own here
      | inr (c', told, is) ↦ omega (arith, clause_below facts clause c' is l here, listed.encoding.rise)
    ]
