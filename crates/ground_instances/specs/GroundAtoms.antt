-- Atoms at ground terms.
use Rattle.std.specs.Prelude.{ℕ, ℤ, Bool, false, List, slice_index_or}
use Rattle.form_formula.specs.Trees.{Term, Formula, bound, num, str, app, yes, no, equal, less, has, flag, present, negation, both, either, exists, forall}
use Rattle.form_terms.specs.GroundTerms.{GroundTerm, constant, field}

-- what a term is where its variable is a ground term: a ground term, a number or a text
pub data GroundValue : Type 0 where
  named : GroundTerm → GroundValue
  number : ℤ → GroundValue
  text : List ℕ → GroundValue

-- a function at a value; no formula over a signature applies one to a number or a text
abbrev pub applied_to : ℕ → GroundValue → GroundValue
applied_to h (named t) = named (field h t)
applied_to h (number n) = number n
applied_to h (text t) = text t

-- the value of a term where the variables above are these ground terms, the outermost first; one that does not stand above is the
-- constant of its sort
abbrev pub ground_value : List GroundTerm → Term → GroundValue
ground_value env (bound sort depth) = named (slice_index_or env depth (constant sort))
ground_value env (num n) = number n
ground_value env (str t) = text t
ground_value env (app h t) = applied_to h (ground_value env t)

-- an atom at values
pub data GroundAtom : Type 0 where
  equal_values : GroundValue → GroundValue → GroundAtom
  less_value : GroundValue → GroundValue → GroundAtom
  related : (relation : ℕ) → GroundValue → GroundValue → GroundAtom
  flagged : (function : ℕ) → GroundValue → GroundAtom
  present_at : (function : ℕ) → GroundValue → GroundAtom

module _ (holds : GroundAtom → Bool) (env : List GroundTerm) where
  -- whether an atom of a formula holds where the variables above are these terms; what is no atom does not
  abbrev pub holds_at : Formula → Bool
  holds_at yes = false
  holds_at no = false
  holds_at (equal t u) = holds (equal_values (ground_value env t) (ground_value env u))
  holds_at (less t u) = holds (less_value (ground_value env t) (ground_value env u))
  holds_at (has r t u) = holds (related r (ground_value env t) (ground_value env u))
  holds_at (flag h t) = holds (flagged h (ground_value env t))
  holds_at (present h t) = holds (present_at h (ground_value env t))
  holds_at (negation a) = false
  holds_at (both a b) = false
  holds_at (either a b) = false
  holds_at (exists sort a) = false
  holds_at (forall sort a) = false
