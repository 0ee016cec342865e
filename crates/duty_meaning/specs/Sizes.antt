-- The sizes of formulas, policies and initialisers.
use Rattle.std.specs.Prelude.{ℕ, ◌+◌, true, false, [], ◌∷◌, length, map, max, min, sum}
use Rattle.std.specs.List.{range_with_len}
use Rattle.duty_meaning.specs.declared.limits.TheConstants.{LARGEST_SIZE}
use Rattle.type_schema.specs.declared.types.TBase.TheVariants as base
use Rattle.type_schema.specs.declared.types.TTy.{TTy}
use Rattle.type_schema.specs.declared.types.TTy.TheVariants.{Plain, Set, Opt}
use Rattle.type_schema.specs.Trees.{Policy, Init, plain, of_set}
use Rattle.type_schema.specs.Schema.{Schema}
use Rattle.type_schema.specs.Uses.{init_uses_of}
use Rattle.form_formula.specs.Trees.{Term, bound, num, str, app, Formula, yes, no, equal, less, has, flag, present, negation, both, either, exists, forall}
use Rattle.duty_meaning.specs.Structures.{function_of}
use Rattle.duty_meaning.specs.Cases.{Cases, at_term, held, truth, among, none, some, choice, over_ends, condition_of}
use Rattle.duty_meaning.specs.Formulas.{of_each_kind, Written, nothing_written, written_out, cases_of, is_in, is_allowed}
use Rattle.duty_meaning.specs.Reach.{init_reach}

-- the nodes of a term: one for each variable, literal and function
abbrev pub term_size : Term → ℕ
term_size (bound sort depth) = 1
term_size (num n) = 1
term_size (str bytes) = 1
term_size (app f t) = 1 + term_size t

-- the size of a formula; a negated atom has that of the atom
abbrev pub size : Formula → ℕ
size yes = 1
size no = 1
size (equal t u) = 1 + term_size t + term_size u
size (less t u) = 1 + term_size t + term_size u
size (has r t u) = 1 + term_size t + term_size u
size (flag f t) = 1 + term_size t
size (present f t) = 1 + term_size t
size (negation a) = size a
size (both a b) = 1 + size a + size b
size (either a b) = 1 + size a + size b
size (exists sort a) = 1 + size a
size (forall sort a) = 1 + size a

-- the record of a policy or an initialiser, and whom a set is asked about, below two quantifiers
abbrev pub row : Term
row = bound 0 0

abbrev pub other : Term
other = bound 0 1

module _ (s : Schema) where
  -- What the value at an end counts as: a term with two more for its place, of a truth value in an option its condition with one more,
  -- and none as one.
  abbrev pub end_size : Cases → ℕ
  end_size (at_term t) = 2 + term_size t
  end_size (held m f t) = 2 + term_size (app (function_of s m f) t)
  end_size (truth c) = 1 + size (c true 2)
  end_size (among members) = 1
  end_size none = 1
  end_size (some v) = end_size v
  end_size (choice c a b) = 1

  -- and a value, with both formulas of the condition of each choice
  abbrev pub value_size : Cases → ℕ
  value_size v = over_ends (λ c a b. 3 + size (c true 2) + a + size (c false 2) + b) end_size v

  -- the value of an initialiser of the type
  abbrev pub plain_size : TTy → Cases → ℕ
  plain_size (Plain base.Bool) v = size (condition_of s v true 2)
  plain_size (Plain base.Int) v = value_size v
  plain_size (Plain base.Text) v = value_size v
  plain_size (Plain (base.Id m)) v = value_size v
  plain_size (Set m) v = value_size v
  plain_size (Opt b) v = value_size v

  module _ (written : Written) where
    abbrev pub policy_size_over : Policy → ℕ
    policy_size_over p = size (is_allowed s written p row (of_each_kind other) true 2)

    abbrev pub result_size : TTy → Init → ℕ
    result_size t (plain e) = plain_size t (cases_of s written (at_term row ∷ []) e)
    result_size t (of_set m set) = size (is_in s written (at_term row ∷ []) set (of_each_kind other) true 2)

    -- what it gives, and each of its uses of fields
    abbrev pub init_size_over : TTy → Init → ℕ
    init_size_over t init =
        result_size t init
        + sum (map (λ number. size (init_reach s written other init row number 2)) (range_with_len 0 (length (init_uses_of init))))

abbrev pub largest_size : ℕ
largest_size = LARGEST_SIZE

-- Sizes are taken with added fields written out and as fields like others; the larger one counts, up to a number at which it stays.
abbrev pub policy_size : Schema → Policy → ℕ
policy_size s p = min (max (policy_size_over s (written_out s s.added) p) (policy_size_over s nothing_written p)) largest_size

abbrev pub init_size : Schema → TTy → Init → ℕ
init_size s t init = min (max (init_size_over s (written_out s s.added) t init) (init_size_over s nothing_written t init)) largest_size
