-- Tables: what terms have, and the reading that comes of it.
use Rattle.std.specs.Prelude.{◌≡◌, ℕ, Bool, false, List, Option, Some, option_and_then, is_some, slice_get, int_lt}
use Rattle.form_formula.specs.declared.structure.SVal.{SVal}
use Rattle.form_formula.specs.declared.structure.SVal.TheVariants.{Num, Str}
use Rattle.form_formula.specs.Trees.{Term, Formula, bound, num, str, app, yes, no, equal, less, has, flag, present, negation, both, either, exists, forall}
use Rattle.form_formula.specs.Truth.{both_pass, are_equal, number_of, is_true_value}
use Rattle.form_terms.specs.GroundTerms.{GroundTerm, GroundTerms, no_terms, term_and}
use Rattle.form_tables.specs.Spoken.{term_at}

-- what each term has: nothing where it is not there, and else a truth value, a number, a text, or an element, which is a number here
-- that two terms of a sort share where they name one element; which set relations hold at two terms; and which sorts are empty
pub record Table : Type 0 where
  pub value : GroundTerm → Option SVal
  pub has : ℕ → GroundTerm → GroundTerm → Bool
  pub is_empty : ℕ → Bool

module _ (table : Table) where
  -- the term has a value
  abbrev pub is_there : GroundTerm → Bool
  is_there t = is_some (table.value t)

  -- two terms have one value
  abbrev pub IsSame : GroundTerm → GroundTerm → Type 0
  IsSame t u = (x : SVal) × (table.value t ≡ Some x) × (table.value u ≡ Some x)

  -- and so have the terms of two lists, one by one
  abbrev pub AreSame : GroundTerms → GroundTerms → Type 0
  AreSame no_terms no_terms = Unit {0}
  AreSame no_terms (term_and u us) = ⊥
  AreSame (term_and t ts) no_terms = ⊥
  AreSame (term_and t ts) (term_and u us) = IsSame t u × AreSame ts us

  module _ (env : List GroundTerm) where
    -- the value of a term of the formula where the variables above are these terms
    abbrev pub value_at : Term → Option SVal
    value_at (bound sort depth) = option_and_then table.value (slice_get env depth)
    value_at (num n) = Some (Num n)
    value_at (str t) = Some (Str t)
    value_at (app h t) = option_and_then table.value (term_at env (app h t))

    -- whether an atom holds there; no other formula does
    abbrev pub holds : Formula → Bool
    holds yes = false
    holds no = false
    holds (equal t u) = both_pass are_equal (value_at t) (value_at u)
    holds (less t u) = both_pass int_lt (option_and_then number_of (value_at t)) (option_and_then number_of (value_at u))
    holds (has r t u) = both_pass (table.has r) (term_at env t) (term_at env u)
    holds (flag h t) = is_true_value (value_at (app h t))
    holds (present h t) = is_some (value_at (app h t))
    holds (negation a) = false
    holds (both a b) = false
    holds (either a b) = false
    holds (exists sort a) = false
    holds (forall sort a) = false
