-- The value of an expression over a structure, as a tree of its cases, and formulas over what stands at its ends.
use Rattle.std.specs.Prelude.{ℕ, Bool, true, false, not, ◌||◌, List, unwrap_or, if◌then◌else◌}
use Rattle.std.specs.List.{reduce}
use Rattle.std.specs.Option.{option_map_or}
use Rattle.text_tree.specs.declared.exprs.CmpOp.{CmpOp}
use Rattle.text_tree.specs.declared.exprs.CmpOp.TheVariants.{Eq, Ne, Lt, Le, Gt, Ge}
use Rattle.type_schema.specs.declared.types.TBase.TheVariants as base
use Rattle.type_schema.specs.declared.types.TTy.{TTy}
use Rattle.type_schema.specs.declared.types.TTy.TheVariants.{Plain, Set, Opt}
use Rattle.type_schema.specs.Schema.{Schema, known_type}
use Rattle.form_formula.specs.Trees.{Term, app, Formula, yes, no, equal, less, has, flag, present, negation, both, either, exists, forall}
use Rattle.duty_meaning.specs.Structures.{function_of, relation_of}

-- ---- conditions

-- A condition gives two formulas, that it holds (true) and that it does not (false), where so many quantifiers stand above.
abbrev pub Condition : Type 0
Condition = Bool → ℕ → Formula

-- The negation of a formula exchanges yes and no, `and` and `or`, `exists` and `forall`, and negates atoms.
abbrev pub constant : Bool → Formula
constant true = yes
constant false = no

abbrev pub atom : Bool → Formula → Formula
atom true a = a
atom false a = negation a

abbrev pub and_if : Bool → Formula → Formula → Formula
and_if true a b = both a b
and_if false a b = either a b

abbrev pub or_if : Bool → Formula → Formula → Formula
or_if sign a b = and_if (not sign) a b

abbrev pub exists_if : Bool → ℕ → Formula → Formula
exists_if true sort a = exists sort a
exists_if false sort a = forall sort a

-- of several formulas, from the left
abbrev pub all_if : Bool → List Formula → Formula
all_if sign formulas = unwrap_or (reduce (and_if sign) formulas) (constant sign)

abbrev pub any_if : Bool → List Formula → Formula
any_if sign formulas = unwrap_or (reduce (or_if sign) formulas) (constant (not sign))

-- The cases of a choice keep their form in its negation.
abbrev pub chosen : ℕ → Condition → Formula → Formula → Formula
chosen above c a b = either (both (c true above) a) (both (c false above) b)

-- both conditions hold, or neither does
abbrev pub same_condition : Condition → Condition → Condition
same_condition a b sign above = chosen above a (b sign above) (b (not sign) above)

-- ---- cases

-- A number, a text or a record is a term. What a field of the structure holds at a term is a term too where it is one of these, and else
-- a truth value, an option or a set, as its type is. Other truth values are conditions, and other sets a condition on each term. Of an
-- option there is none, or some value. A choice has a condition, the value where it holds, and the value where it does not.
pub data Cases : Type 0 where
  at_term : Term → Cases
  held : (model field : ℕ) → Term → Cases
  truth : Condition → Cases
  among : (Term → Condition) → Cases
  none : Cases
  some : Cases → Cases
  choice : Condition → Cases → Cases → Cases

-- something for each end, and for each choice something of what there is for its two sides
abbrev pub over_ends : {A : Type 0} → (Condition → A → A → A) → (Cases → A) → Cases → A
over_ends choose end (at_term t) = end (at_term t)
over_ends choose end (held m f t) = end (held m f t)
over_ends choose end (truth c) = end (truth c)
over_ends choose end (among members) = end (among members)
over_ends choose end none = end none
over_ends choose end (some v) = end (some v)
over_ends choose end (choice c a b) = choose c (over_ends choose end a) (over_ends choose end b)

-- the cases that go on at each end
abbrev pub continued : (Cases → Cases) → Cases → Cases
continued end v = over_ends choice end v

-- a formula for each end, where so many quantifiers stand above
abbrev pub at_ends : ℕ → (Cases → Formula) → Cases → Formula
at_ends above end v = over_ends (chosen above) end v

module _ (s : Schema) where
  -- something for the term that an end is; otherwise, which typing rules out, something else
  abbrev pub of_term : {A : Type 0} → A → (Term → A) → Cases → A
  of_term other k (at_term t) = k t
  of_term other k (held m f t) = k (app (function_of s m f) t)
  of_term other k (truth c) = other
  of_term other k (among members) = other
  of_term other k none = other
  of_term other k (some v) = other
  of_term other k (choice c a b) = other

  abbrev pub at_terms : ℕ → (Term → Formula) → Cases → Formula
  at_terms above k v = at_ends above (of_term no k) v

  -- that a field of the structure holds a value at the term
  abbrev pub is_present : ℕ → ℕ → Term → Condition
  is_present m f t sign above = atom sign (present (function_of s m f) t)

  -- Something for none, and something for the value in an option; for an option that a field holds it is chosen by whether the field
  -- has a value, with the first standing first. Otherwise, which typing rules out, what stands for none.
  abbrev pub of_option : {A : Type 0} → (Condition → A → A → A) → A → (Cases → A) → Cases → A
  of_option choose a k (at_term t) = a
  of_option choose a k (held m f t) = choose (λ sign above. is_present m f t (not sign) above) a (k (held m f t))
  of_option choose a k (truth c) = a
  of_option choose a k (among members) = a
  of_option choose a k none = a
  of_option choose a k (some v) = k v
  of_option choose a k (choice c x y) = a

  -- the condition that a truth value at an end is
  abbrev pub end_holds : Bool → ℕ → Cases → Formula
  end_holds sign above (at_term t) = no
  end_holds sign above (held m f t) = atom sign (flag (function_of s m f) t)
  end_holds sign above (truth c) = c sign above
  end_holds sign above (among members) = no
  end_holds sign above none = no
  end_holds sign above (some v) = no
  end_holds sign above (choice c a b) = no

  abbrev pub condition_of : Cases → Condition
  condition_of v sign above = at_ends above (end_holds sign above) v

  -- the condition that a term is in the set at an end
  abbrev pub end_has : Term → Bool → ℕ → Cases → Formula
  end_has u sign above (at_term t) = no
  end_has u sign above (held m f t) = atom sign (has (relation_of s m f) t u)
  end_has u sign above (truth c) = no
  end_has u sign above (among members) = members u sign above
  end_has u sign above none = no
  end_has u sign above (some v) = no
  end_has u sign above (choice c a b) = no

  abbrev pub has_term : Cases → Term → Condition
  has_term v u sign above = at_ends above (end_has u sign above) v

  -- ---- comparisons

  abbrev pub same_term : Cases → Cases → Condition
  same_term v w sign above = at_terms above (λ t. at_terms above (λ u. atom sign (equal t u)) w) v

  abbrev pub less_term : Cases → Cases → Condition
  less_term v w sign above = at_terms above (λ t. at_terms above (λ u. atom sign (less t u)) w) v

  abbrev pub is_truth_type : TTy → Bool
  is_truth_type (Plain base.Bool) = true
  is_truth_type (Plain base.Int) = false
  is_truth_type (Plain base.Text) = false
  is_truth_type (Plain (base.Id m)) = false
  is_truth_type (Set m) = false
  is_truth_type (Opt base.Bool) = true
  is_truth_type (Opt base.Int) = false
  is_truth_type (Opt base.Text) = false
  is_truth_type (Opt (base.Id m)) = false

  -- whether the field holds truth values, or did before a command removed it
  abbrev pub holds_truth : ℕ → ℕ → Bool
  holds_truth m f = option_map_or is_truth_type (known_type s m f) false

  -- whether a value is a truth value, as its first end shows
  abbrev pub is_truth : Cases → Bool
  is_truth (at_term t) = false
  is_truth (held m f t) = holds_truth m f
  is_truth (truth c) = true
  is_truth (among members) = false
  is_truth none = false
  is_truth (some v) = false
  is_truth (choice c a b) = is_truth a

  -- Some of a truth value stands for its condition as a whole; some of another value is some of each of its ends.
  abbrev pub some_of : Cases → Cases
  some_of v = if is_truth v then some (truth (condition_of v)) else continued some v

  -- equality of two truth values, or of two terms
  abbrev pub are_equal : Cases → Cases → Condition
  are_equal v w = if is_truth v || is_truth w then same_condition (condition_of v) (condition_of w) else same_term v w

  abbrev pub compared : CmpOp → Cases → Cases → Condition
  compared Eq v w sign above = are_equal v w sign above
  compared Ne v w sign above = are_equal v w (not sign) above
  compared Lt v w sign above = less_term v w sign above
  compared Le v w sign above = less_term w v (not sign) above
  compared Gt v w sign above = less_term w v sign above
  compared Ge v w sign above = less_term v w (not sign) above
