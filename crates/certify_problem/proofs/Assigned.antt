-- A structure that passes a formula over terms gives its clauses a lawful assignment: its model's values of facts, completed to those of gates, and its columns.
use Rattle.std.proofs.Common.{◌≡◌, ℕ, Bool, true, ◌||◌, inl, inr, refl, sym, ◌∙◌, List, [], ◌∷◌, ◌++◌, Option, Some, None, IfSome, IsTrue, ap, subst, cond, map, slice_get}
use Rattle.std.specs.List.{list_all, list_any}
use Rattle.std.specs.Option.{option_map}
use Rattle.std.proofs.lemmas.List.Elements.{Contains-append_cases}
use Rattle.form_terms.proofs.Kept.{list_all-from}
use Rattle.form_terms.proofs.Listed.{in_map}
use Rattle.form_terms.proofs.Lists.{list_all-Contains}
use Rattle.form_tables.specs.Clauses.{base_clauses, congruence_clauses}
use Rattle.form_tables.specs.Facts.{Assignment, Clause, Fact, is_fact, is_met}
use Rattle.form_tables.specs.Models.{assignment_of}
use Rattle.form_tables.proofs.Modeled.{modeled}
use Rattle.ground_gates.specs.Clauses.{meets_clause}
use Rattle.ground_gates.specs.Gates.{literal_value}
use Rattle.ground_gates.specs.declared.gate.Literal.{Literal as GateLiteral}
use Rattle.ground_problem.specs.Facts.{clause_at, clauses_at, fact_at}
use Rattle.ground_problem.specs.Words.{vocabulary_at}
use Rattle.ground_problem.proofs.Grounded.{read_met}
use Rattle.certify_clauses.specs.Problem.{Columns, is_true_in, meets_said}
use Rattle.certify_clauses.specs.declared.literal.Literal.{Literal}
use Rattle.certify_atoms.specs.Atoms.{Both}
use Rattle.certify_atoms.proofs.Items.{item_there, slice_mapped}
use Rattle.certify_atoms.proofs.ModelMeets.{models_columns}
use Rattle.certify_problem.specs.Problems.{StructuresGiveAssignments, literal_of}

-- a clause of a certificate is met as the one that it was made of
same_clause : (values : ℕ → Bool) (clause : List GateLiteral) → list_any (is_true_in values) (map literal_of clause) ≡ meets_clause values clause
same_clause values [] = refl
same_clause values (l ∷ ls) = ap (λ z. literal_value values l || z) (same_clause values ls)

clause_met : (values : ℕ → Bool) (o : Option (List GateLiteral)) → IfSome o (λ clause. meets_clause values clause ≡ true)
    → IfSome (option_map (map literal_of) o) (λ (clause : List Literal). IsTrue (list_any (is_true_in values) clause))
clause_met values None h = tt
clause_met values (Some clause) h = same_clause values clause ∙ h

pub assigned : StructuresGiveAssignments
assigned g f terms c over normal h sat =
    let s = h.spoken in
    let made = s.made in
    let v = vocabulary_at made.terms s.words in
    let (spare, m, law, met, read) = modeled g f terms v over normal h.is_spoken.vocabulary h.texts h.are_texts sat in
    let a : Assignment = assignment_of g h.texts spare m in
    let cols = models_columns g h.nodes made.terms s.words h.texts spare m law h.once in
    let whole : List Clause = base_clauses g v ++ congruence_clauses g v in
    let orders : List Clause = clauses_at h.nodes made.terms h.orders in
    let all : IsTrue (list_all (is_met a) (whole ++ orders)) =
    list_all-from (is_met a) (whole ++ orders) (λ clause here.
    elim (Contains-append_cases whole orders clause here) [
      | inl k ↦ list_all-Contains (is_met a) whole clause met k
      | inr k ↦ let (o, there, same) = in_map (clause_at h.nodes made.terms) h.orders clause k in ap (is_met a) (sym same) ∙ cols.meets_orders o (h.are_orders o there)
    ]) in
    let facts : List Fact = map (fact_at h.nodes made.terms) h.facts in
    let (values, have, meet) = read_met g f terms (whole ++ orders) h.nodes made facts c.vars h.clauses over h.is_spoken.instances h.ground a all read in
    let clauses_met : (n : ℕ) → IfSome (option_map (map literal_of) (slice_get h.clauses n)) (λ (clause : List Literal). IsTrue (list_any (is_true_in values) clause)) =
    λ n. clause_met values (slice_get h.clauses n) (each (λ (clause : List GateLiteral). meets_clause values clause ≡ true) (slice_get h.clauses n) (λ clause e. list_all-Contains (meets_clause values) h.clauses clause meet (item_there h.clauses n clause e))) in
    let atom_met : (k : ℕ) → IfSome (option_map (λ (pair : Both). cond (values k) pair.0 pair.1) (c.atom k)) (λ said. IsTrue (meets_said cols.columns said)) =
    λ k. mapped (values k) cols.columns (c.atom k) (λ both e.
    let (p, at, is) = h.atoms_are k both e in
    let own : values k ≡ is_fact a (fact_at h.nodes made.terms p) = have k (fact_at h.nodes made.terms p) (slice_mapped (fact_at h.nodes made.terms) h.facts k p at) in
    subst (λ (b : Bool). IsTrue (meets_said cols.columns (cond b both.0 both.1))) (sym own) (cols.meets_atoms p both is)) in (
      values,
      record {
        meets_each = λ n. subst (λ (o : Option (List Literal)). IfSome o (λ (clause : List Literal). IsTrue (list_any (is_true_in values) clause))) (sym (h.clauses_are n)) (clauses_met n);
        columns = cols.columns;
        are_models = rw (h.terms_are, h.fixed_are, h.numbers_are) cols.are_columns;
        meet_atoms = λ k within. atom_met k;
      },
    )
  where
    mapped : (b : Bool) (columns : Columns) (o : Option Both) → ((both : Both) → o ≡ Some both → IsTrue (meets_said columns (cond b both.0 both.1)))
        → IfSome (option_map (λ (pair : Both). cond b pair.0 pair.1) o) (λ said. IsTrue (meets_said columns said))
    mapped b columns None h = tt
    mapped b columns (Some both) h = h both refl

    each : {X : Type 0} (P : X → Type 0) (o : Option X) → ((x : X) → o ≡ Some x → P x) → IfSome o P
    each P None h = tt
    each P (Some x) h = h x refl
