-- What a formula is grounded to.
use Rattle.std.specs.Prelude.{◌≡◌, ◌⊎◌, ℕ, List}
use Rattle.form_formula.specs.declared.structure.Signature.{Signature}
use Rattle.form_formula.specs.Trees.{Formula}
use Rattle.form_strata.specs.Order.{IsCycle}
use Rattle.form_strata.specs.SortGraph.{IsStratified, edges_of}
use Rattle.form_terms.specs.Counts.{IsTooLarge, node_count, shallow_node_count, shallow_term_count, term_count}
use Rattle.form_terms.specs.GroundTerms.{GroundTerm}
use Rattle.form_terms.specs.Listing.{Lists}
use Rattle.form_terms.specs.Satisfying.{IsSatisfiable}
use Rattle.form_terms.specs.Universe.{IsHerbrandTerm, IsShallowTerm}
use Rattle.certify_clauses.specs.InMemory.{problem_in}
use Rattle.certify_clauses.specs.Problem.{Problem}
use Rattle.certify_clauses.specs.Refuted.{IsRefuted}
use Rattle.certify_problem.specs.Problems.{IsProblemOf}
use Rattle.certify_problem.specs.declared.grounded.Grounded.{Grounded}
use Rattle.certify_problem.specs.declared.grounded.Grounded.TheVariants as grounded

-- a formula and its normal form
module _ (g : Signature) (f form : Formula) where
  -- the normal form has too many terms, or too many nodes where it is written out over them; and so over its shallow terms
  abbrev pub IsOverLimit : Type 0
  IsOverLimit = IsTooLarge (term_count g form) (node_count g form)

  abbrev pub IsShallowOverLimit : Type 0
  IsShallowOverLimit = IsTooLarge (shallow_term_count g form) (shallow_node_count g form)

  -- the terms over which the formula is read: all terms of a stratified one within the limits; of another one the shallow terms, within the limits
  abbrev pub AreTermsOf : List GroundTerm → Type 0
  AreTermsOf terms =
      (IsStratified g form × (IsOverLimit → ⊥) × Lists (IsHerbrandTerm g form) terms)
      ⊎ ((IsStratified g form → ⊥) × (IsShallowOverLimit → ⊥) × Lists (IsShallowTerm g form) terms)

  -- the clauses of the normal form over these terms; where they have no lawful assignment, no finite structure satisfies the formula
  pub record IsProblemFor (c : Problem) : Type 0 where
    pub terms : List GroundTerm
    pub terms_are : AreTermsOf terms
    pub problem : IsProblemOf g form terms c
    pub refutes : IsRefuted c → IsSatisfiable g f → ⊥

  -- the formula is not stratified, by this cycle, and its shallow terms are over a limit
  pub record IsCyclic (cycle : List ℕ) : Type 0 where
    pub not_stratified : IsStratified g form → ⊥
    pub is_cycle : IsCycle (edges_of g form) cycle
    pub over_limit : IsShallowOverLimit

  -- the formula is stratified, and over a limit by these counts
  pub record IsTooLargeBy (terms nodes : ℕ) : Type 0 where
    pub stratified : IsStratified g form
    pub terms_are : terms ≡ term_count g form
    pub nodes_are : nodes ≡ node_count g form
    pub over_limit : IsOverLimit

  abbrev pub IsGrounded : Grounded → Type 0
  IsGrounded (grounded.Clauses c) = IsProblemFor (problem_in c)
  IsGrounded (grounded.Cyclic cycle) = IsCyclic cycle
  IsGrounded (grounded.TooLarge terms nodes) = IsTooLargeBy terms nodes
