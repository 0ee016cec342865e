-- Clauses on facts as clauses on variables that have their values, and inputs as the variables of their facts.
use Rattle.std.proofs.Common.{◌≡◌, ℕ, Bool, not, ◌&&◌, ◌||◌, refl, sym, ◌∙◌, List, [], ◌∷◌, cond, ap}
use Rattle.std.specs.List.{list_all}
use Rattle.form_formula.specs.declared.node.Node.{Node}
use Rattle.ground_gates.specs.declared.gate.Literal.{Literal}
use Rattle.ground_gates.specs.Clauses.{meets_clause, inputs_by}
use Rattle.form_tables.specs.Facts.{Fact, Assignment, Clause, is_fact, is_met, table_for}
use Rattle.form_tables.specs.Table.{is_there}
use Rattle.ground_instances.specs.Inputs.{AreInputsOf}
use Rattle.ground_instances.specs.declared.instantiation.Instances.{Instances}
use Rattle.ground_problem.specs.GroundClauses.{HaveFacts, AreVariables, IsClauseFor, AreTied}
use Rattle.ground_problem.specs.InputFacts.{are_facts}
use Rattle.ground_problem.specs.Says.{says}
use Rattle.ground_problem.proofs.FactsSaid.{input_is}

one_all : (p b q c : Bool) → p ≡ b → q ≡ c → (p && q) ≡ (b && c)
one_all p b q c e d = ap (λ x. x && q) e ∙ ap (λ x. b && x) d

one_literal : (x y s t r r' : Bool) → x ≡ y → s ≡ t → r ≡ r' → (cond s x (not x) || r) ≡ (cond t y (not y) || r')
one_literal x y s t r r' e d h =
    ap (λ x. cond s x (not x) || r) e ∙ (ap (λ s. cond s y (not y) || r) d ∙ ap (λ r. cond t y (not y) || r) h)

module _ (facts : List Fact) (a : Assignment) (values : ℕ → Bool) (have : HaveFacts facts a values) where
  have_values : (xs : List ℕ) (ps : List Fact) → AreVariables facts xs ps → list_all values xs ≡ list_all (is_fact a) ps
  have_values [] [] h = refl
  have_values [] (p ∷ ps) h = absurd h
  have_values (x ∷ xs) [] h = absurd h
  have_values (x ∷ xs) (p ∷ ps) h =
      one_all (values x) (is_fact a p) (list_all values xs) (list_all (is_fact a) ps) (have x p h.0) (have_values xs ps h.1)

  -- an input is true where its facts are facts
  pub tied_inputs : (made : Instances) (nodes : List Node) (inputs : List (List ℕ)) → AreTied facts made nodes inputs
      → AreInputsOf nodes made.terms (is_there (table_for a)) (says (table_for a)) made.inputs (inputs_by inputs values)
  tied_inputs made nodes inputs tied k i at =
      let (ps, is, are) = tied.each k i at in
      have_values _ ps are ∙ (ap (are_facts a) (sym is) ∙ sym (input_is a nodes made.terms i))

  -- a clause on facts
  pub clause_value : (clause : List Literal) (c : Clause) → IsClauseFor facts clause c → meets_clause values clause ≡ is_met a c
  clause_value [] [] h = refl
  clause_value [] (p ∷ ps) h = absurd h
  clause_value (l ∷ ls) [] h = absurd h
  clause_value (l ∷ ls) (p ∷ ps) h =
      one_literal (values l.var) (is_fact a p.fact) l.plus p.sign (meets_clause values ls) (is_met a ps) (have l.var p.fact h.0) h.1 (clause_value ls ps h.2)
