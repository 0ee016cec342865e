-- The clauses of instances over a table.
use Rattle.std.proofs.Common.{◌≡◌, ℕ, Bool, true, false, inl, inr, sym, ◌∙◌, List, [], ◌++◌, Some, None, Option, ap, slice_get, Contains}
use Rattle.std.specs.Prelude.{IsTrue, ◌↔◌}
use Rattle.std.specs.List.{list_all}
use Rattle.std.proofs.lemmas.Option.{slice_get_within}
use Rattle.text_ast.specs.Words.{IsText}
use Rattle.form_formula.specs.declared.node.Node.{Node}
use Rattle.form_formula.specs.declared.structure.Signature.{Signature}
use Rattle.form_formula.specs.NormalForm.{IsNormal}
use Rattle.form_formula.specs.Over.{IsOver}
use Rattle.form_formula.specs.Trees.{Formula}
use Rattle.ground_gates.specs.declared.gate.Literal.{Literal}
use Rattle.ground_gates.specs.Gates.{value_of}
use Rattle.ground_gates.specs.Clauses.{meets_clause, inputs_by}
use Rattle.form_terms.specs.GroundTerms.{GroundTerm, no_terms}
use Rattle.form_terms.specs.Passing.{IsSatisfiableOver}
use Rattle.form_terms.specs.Reading.{Reads}
use Rattle.form_terms.proofs.Kept.{list_all-from}
use Rattle.form_terms.proofs.Lists.{list_all-Contains}
use Rattle.form_tables.specs.Vocabulary.{Vocabulary, IsVocabulary}
use Rattle.form_tables.specs.Table.{Table, holds, is_there}
use Rattle.std.proofs.lemmas.List.Elements.{Contains-append_cases}
use Rattle.form_tables.specs.Facts.{Fact, Assignment, Clause, is_fact, is_met, table_for}
use Rattle.form_tables.specs.Clauses.{base_clauses, congruence_clauses}
use Rattle.form_tables.specs.Models.{Model, IsLawful, assignment_of}
use Rattle.form_tables.proofs.Modeled.{modeled}
use Rattle.ground_instances.specs.GroundAtoms.{holds_at}
use Rattle.ground_instances.specs.Made.{AreInstancesOf}
use Rattle.ground_instances.specs.declared.instantiation.Instances.{Instances}
use Rattle.ground_problem.specs.Says.{says}
use Rattle.ground_problem.specs.GroundClauses.{HaveFacts, AreGroundClauses}
use Rattle.ground_problem.proofs.AtomsSaid.{reads_said, said_reads}
use Rattle.ground_problem.proofs.Tied.{tied_inputs, clause_value}

fact_value : Assignment → Option Fact → Bool
fact_value a None = false
fact_value a (Some p) = is_fact a p

module _ (g : Signature) (f : Formula) (terms : List GroundTerm) (cs : List Clause) (nodes : List Node) (made : Instances) (facts : List Fact) (end : ℕ)
    (clauses : List (List Literal)) (over : IsOver g [] f) (instances : AreInstancesOf g nodes f terms made)
    (listed : AreGroundClauses facts made nodes cs end clauses) (a : Assignment) where
  abbrev T : Table
  T = table_for a

  abbrev IsRead : Type 0
  IsRead = Reads g (is_there T) (holds T) terms 0 [] no_terms f

  abbrev AreMet : Type 0
  AreMet = IsTrue (list_all (is_met a) cs)

  abbrev DoMeet : (ℕ → Bool) → Type 0
  DoMeet values = IsTrue (list_all (meets_clause values) clauses)

  module _ (values : ℕ → Bool) (have : HaveFacts facts a values) where
    abbrev IsRootTrue : Type 0
    IsRootTrue = value_of (inputs_by listed.inputs values) made.gates made.root ≡ true

    root_read : IsRootTrue ↔ Reads g (is_there T) (holds_at (says T)) terms 0 [] no_terms f
    root_read = instances.reads (is_there T) (says T) (inputs_by listed.inputs values) (tied_inputs facts a values have made nodes listed.inputs listed.tied)

    module _ (meet : DoMeet values) where
      met : (clause : List Literal) → Contains clauses clause → meets_clause values clause ≡ true
      met clause c = list_all-Contains (meets_clause values) clauses clause meet c

      pub met_read : IsRead
      met_read = said_reads g f terms T over (root_read.0 (listed.encoding.sound values (λ clause c. met clause (listed.listed clause c))))

      pub met_tables : AreMet
      met_tables =
          list_all-from (is_met a) cs
          (λ c here. let own = listed.tables c here in sym (clause_value facts a values have own.0 c own.1) ∙ met own.0 own.2)

  -- the values of facts
  own : ℕ → Bool
  own x = fact_value a (slice_get facts x)

  own_facts : HaveFacts facts a own
  unfolding own fact_value
  own_facts k p at = ap (fact_value a) at

  pub read_met : AreMet → IsRead → (values : ℕ → Bool) × HaveFacts facts a values × DoMeet values
  read_met tables read =
      let (values, kept, gates) = listed.encoding.complete own ((root_read own own_facts).1 (reads_said g f terms T over read)) in
      let have : HaveFacts facts a values = λ k p at. kept k (slice_get_within facts k p at) ∙ own_facts k p at in (
        values,
        have,
        list_all-from (meets_clause values) clauses
            (λ clause here.
            elim (listed.only clause here) [
              | inl own ↦ gates clause own
              | inr (c, c_here, is) ↦ clause_value facts a values have clause c is ∙ list_all-Contains (is_met a) cs c tables c_here
            ]),
      )

module _ (g : Signature) (f : Formula) (terms : List GroundTerm) (v : Vocabulary) (cs : List Clause) (texts : List (List ℕ)) (nodes : List Node) (made : Instances) (facts : List Fact)
    (end : ℕ) (clauses : List (List Literal)) (over : IsOver g [] f) (normal : IsNormal f) (words : IsVocabulary g f terms v)
    (are : (w : List ℕ) → Contains texts w → IsText w) (instances : AreInstancesOf g nodes f terms made)
    (listed : AreGroundClauses facts made nodes cs end clauses) where
  abbrev IsGrounded : Type 0
  IsGrounded = (spare : ℕ → List ℕ) × (m : Model) × (values : ℕ → Bool) × IsLawful g texts spare m v × HaveFacts facts (assignment_of g texts spare m) values
      × IsTrue (list_all (meets_clause values) clauses)

  abbrev whole : List Clause
  whole = base_clauses g v ++ congruence_clauses g v

  pub grounded : ((c : Clause) → Contains cs c → Contains whole c) → IsSatisfiableOver g f (Contains terms) → IsGrounded
  grounded some s =
      let (spare, m, law, met, read) = modeled g f terms v over normal words texts are s in
      let a : Assignment = assignment_of g texts spare m in
      let fewer : IsTrue (list_all (is_met a) cs) = list_all-from (is_met a) cs (λ c here. list_all-Contains (is_met a) whole c met (some c here)) in
      let (values, have, meet) = read_met g f terms cs nodes made facts end clauses over instances listed a fewer read in
      (spare, m, values, law, have, meet)

  -- and back, if the clauses on one term are among them and those of congruence are met
  pub from_grounded : ((c : Clause) → Contains (base_clauses g v) c → Contains cs c) → (spare : ℕ → List ℕ) (m : Model) (values : ℕ → Bool) → IsLawful g texts spare m v
      → HaveFacts facts (assignment_of g texts spare m) values → IsTrue (list_all (meets_clause values) clauses) → IsTrue (list_all (is_met (assignment_of g texts spare m)) (congruence_clauses g v))
      → IsTrue (list_all (is_met (assignment_of g texts spare m)) whole)
      × Reads g (is_there (table_for (assignment_of g texts spare m))) (holds (table_for (assignment_of g texts spare m))) terms 0 [] no_terms f
  from_grounded all spare m values law have meet alike =
      let a : Assignment = assignment_of g texts spare m in
      let met : IsTrue (list_all (is_met a) cs) = met_tables g f terms cs nodes made facts end clauses over instances listed a values have meet in (
        list_all-from (is_met a) whole
            (λ c here.
            elim (Contains-append_cases (base_clauses g v) (congruence_clauses g v) c here) [
              | inl base ↦ list_all-Contains (is_met a) cs c met (all c base)
              | inr later ↦ list_all-Contains (is_met a) (congruence_clauses g v) c alike later
            ]),
        met_read g f terms cs nodes made facts end clauses over instances listed a values have meet,
      )
