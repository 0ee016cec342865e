-- What a verdict says of a formula.
use Rattle.std.specs.Prelude.{◌≡◌, ◌↔◌, ℕ, List, Option, None, IfSome}
use Rattle.form_formula.specs.declared.structure.Signature.{Signature}
use Rattle.form_formula.specs.declared.structure.Structure.{Structure}
use Rattle.form_formula.specs.NormalForm.{normal_form}
use Rattle.form_formula.specs.Trees.{Formula}
use Rattle.form_strata.specs.Order.{IsCycle}
use Rattle.form_strata.specs.SortGraph.{IsStratified, edges_of}
use Rattle.form_terms.specs.Counts.{IsTooLarge, node_count, shallow_node_count, shallow_term_count, term_count}
use Rattle.form_terms.specs.Passing.{IsSatisfiableOver, Passes}
use Rattle.form_terms.specs.Satisfying.{IsSatisfiable, Satisfies, SatisfiesWith}
use Rattle.form_terms.specs.Structures.{IsStructure}
use Rattle.form_terms.specs.Universe.{IsShallowTerm}
use Rattle.decide_verdict.specs.declared.verdict.Verdict.{Verdict}
use Rattle.decide_verdict.specs.declared.verdict.Verdict.TheVariants.{Safe, Found, Unknown, TooLarge}

-- a formula and its normal form
module _ (g : Signature) (f form : Formula) where
  -- the normal form has too many terms, or too many nodes where it is written out over them; and so over its shallow terms
  abbrev pub IsOverLimit : Type 0
  IsOverLimit = IsTooLarge (term_count g form) (node_count g form)

  abbrev pub IsShallowOverLimit : Type 0
  IsShallowOverLimit = IsTooLarge (shallow_term_count g form) (shallow_node_count g form)

  -- no finite structure satisfies the formula; a stratified one is within the limits, and of another one the shallow terms are, and no
  -- structure passes it over these
  pub record IsSafe : Type 0 where
    pub nowhere : IsSatisfiable g f → ⊥
    pub within : IsStratified g form → IsOverLimit → ⊥
    pub shallow_within : (IsStratified g form → ⊥) → IsShallowOverLimit → ⊥
    pub passes_nowhere : (IsStratified g form → ⊥) → IsSatisfiableOver g form (IsShallowTerm g form) → ⊥

  -- the structure satisfies the formula, and with these elements for the `exists` that its normal form begins with; a stratified one is
  -- within the limits, and of another one the shallow terms are
  pub record IsFoundIn (s : Structure) (picks : List ℕ) : Type 0 where
    pub satisfies : Satisfies g f s
    pub leading : SatisfiesWith g form s picks
    pub within : IsStratified g form → IsOverLimit → ⊥
    pub shallow_within : (IsStratified g form → ⊥) → IsShallowOverLimit → ⊥

  -- the structure passes the formula over the shallow terms, and does not satisfy it
  pub record IsTried (s : Structure) : Type 0 where
    pub structure : IsStructure g s
    pub passes : Passes g form (IsShallowTerm g form) s
    pub fails : Satisfies g f s → ⊥

  -- the formula is not stratified, by this cycle; its shallow terms are over a limit, or this structure was tried
  pub record IsUnknown (cycle : List ℕ) (tried : Option Structure) : Type 0 where
    pub not_stratified : IsStratified g form → ⊥
    pub is_cycle : IsCycle (edges_of g form) cycle
    pub untried : (tried ≡ None) ↔ IsShallowOverLimit
    pub is_tried : IfSome tried IsTried

  -- the formula is stratified, and over a limit by these counts
  pub record IsTooLargeBy (terms nodes : ℕ) : Type 0 where
    pub stratified : IsStratified g form
    pub terms_are : terms ≡ term_count g form
    pub nodes_are : nodes ≡ node_count g form
    pub over_limit : IsOverLimit

  abbrev pub IsVerdictOn : Verdict → Type 0
  IsVerdictOn Safe = IsSafe
  IsVerdictOn (Found s picks) = IsFoundIn s picks
  IsVerdictOn (Unknown cycle tried) = IsUnknown cycle tried
  IsVerdictOn (TooLarge terms nodes) = IsTooLargeBy terms nodes

-- the verdict is true of the formula
abbrev pub IsVerdict : Signature → Formula → Verdict → Type 0
IsVerdict g f verdict = IsVerdictOn g f (normal_form f) verdict
