-- The clauses of a formula over its terms.
use Rattle.std.proofs.Common.{◌≡◌, ℕ, Bool, true, false, ◌∙◌, List, [], ◌∷◌, ◌++◌, subst, Contains}
use Rattle.form_formula.specs.NormalForm.{IsNormal, signed_form}
use Rattle.form_formula.specs.Over.{IsOver}
use Rattle.form_formula.specs.Trees.{Formula, yes, no, equal, less, has, flag, present, negation, both, either, exists, forall}
use Rattle.form_formula.specs.Truth.{IsEquallyTrue}
use Rattle.form_formula.specs.declared.structure.Signature.{Signature}
use Rattle.form_terms.specs.Counts.{IsTooLarge, node_count, term_count}
use Rattle.form_terms.specs.GroundTerms.{GroundTerm}
use Rattle.form_terms.proofs.Witnesses.{passes_where_true}
use Rattle.form_strata.specs.SortGraph.{IsStratified}
use Rattle.certify_clauses.specs.Problem.{Problem}
use Rattle.certify_problem.specs.Grounded.{AreTermsOf, IsProblemFor, IsTooLargeBy}
use Rattle.certify_problem.specs.Problems.{IsProblemOf}
use Rattle.certify_problem.proofs.Assigned.{assigned}

-- a normal form is over the same signature
pub over_form : (g : Signature) (sign : Bool) (scope : List ℕ) (f : Formula) → IsOver g scope f → IsOver g scope (signed_form sign f)
over_form g true scope yes h = tt
over_form g false scope yes h = tt
over_form g true scope no h = tt
over_form g false scope no h = tt
over_form g true scope (equal t u) h = h
over_form g false scope (equal t u) h = h
over_form g true scope (less t u) h = h
over_form g false scope (less t u) h = h
over_form g true scope (has r t u) h = h
over_form g false scope (has r t u) h = h
over_form g true scope (flag f t) h = h
over_form g false scope (flag f t) h = h
over_form g true scope (present f t) h = h
over_form g false scope (present f t) h = h
over_form g true scope (negation a) h = over_form g false scope a h
over_form g false scope (negation a) h = over_form g true scope a h
over_form g true scope (both a b) h = (over_form g true scope a h.0, over_form g true scope b h.1)
over_form g false scope (both a b) h = (over_form g false scope a h.0, over_form g false scope b h.1)
over_form g true scope (either a b) h = (over_form g true scope a h.0, over_form g true scope b h.1)
over_form g false scope (either a b) h = (over_form g false scope a h.0, over_form g false scope b h.1)
over_form g true scope (exists sort a) h = (h.0, over_form g true (scope ++ sort ∷ []) a h.1)
over_form g false scope (exists sort a) h = (h.0, over_form g false (scope ++ sort ∷ []) a h.1)
over_form g true scope (forall sort a) h = (h.0, over_form g true (scope ++ sort ∷ []) a h.1)
over_form g false scope (forall sort a) h = (h.0, over_form g false (scope ++ sort ∷ []) a h.1)

-- where the clauses over some terms have no lawful assignment, no finite structure satisfies the formula: it would pass the normal form over them
pub problem_for : (g : Signature) (f form : Formula) (terms : List GroundTerm) (c : Problem) → IsOver g [] form → IsNormal form → IsEquallyTrue form f → AreTermsOf g f form terms
    → IsProblemOf g form terms c → IsProblemFor g f form c
problem_for g f form terms c over normal same are h = record {
  terms = terms;
  terms_are = are;
  problem = h;
  refutes = λ refuted sat.
      let (s, satisfies) = sat in
      let (a, lawful) = assigned g form terms c over normal h (s, satisfies.structure, passes_where_true g form (Contains terms) s (same s [] ∙ satisfies.true_there)) in
      refuted a lawful;
}

pub too_large : (g : Signature) (f n : Formula) (terms nodes : ℕ) → IsStratified g n → (terms ≡ term_count g n) × (nodes ≡ node_count g n) × IsTooLarge terms nodes
    → IsTooLargeBy g f n terms nodes
too_large g f n terms nodes stratified h =
    let P : ℕ → Type 0 = λ terms. IsTooLarge terms nodes in
    let Q : ℕ → Type 0 = λ nodes. IsTooLarge (term_count g n) nodes in
    record { stratified = stratified; terms_are = h.0; nodes_are = h.1; over_limit = subst Q h.1 (subst P h.0 h.2) }
