-- The truth of a formula on a finite structure.
use Rattle.std.specs.Prelude.{◌≡◌, ◌==◌, ℕ, ℤ, Bool, true, false, not, ◌&&◌, ◌||◌, List, [], ◌∷◌, ◌++◌, Option, None, Some, is_some, slice_get, slice_index_or, int_lt, nat_eq, option_and_then}
use Rattle.std.specs.List.{list_any, list_all, range_with_len}
use Rattle.std.specs.Option.{option_map}
use Rattle.std.specs.Ordering.{int_eq}
use Rattle.std.specs.Cmp.Lexicographic.{pointwise}
use Rattle.form_formula.specs.declared.structure.SVal.{SVal}
use Rattle.form_formula.specs.declared.structure.SVal.TheVariants.{Rec, Flag, Num, Str}
use Rattle.form_formula.specs.declared.structure.Structure.{Structure}
use Rattle.form_formula.specs.Trees.{Term, Formula, bound, num, str, app, yes, no, equal, less, has, flag, present, negation, both, either, exists, forall}

-- how many elements a sort has: none where the structure has no number for it
abbrev pub size_of : Structure → ℕ → ℕ
size_of s sort = slice_index_or s.sizes sort 0

-- the elements of a sort
abbrev pub elements : Structure → ℕ → List ℕ
elements s sort = range_with_len 0 (size_of s sort)

-- what a function has at an element: nothing where its table does not hold anything or there is no table
abbrev pub entry : Structure → ℕ → ℕ → Option SVal
entry s f x = slice_index_or (slice_index_or s.funs f []) x None

-- whether a set relation holds of two elements; one without a table has no pairs
abbrev pub relates : Structure → ℕ → ℕ → ℕ → Bool
relates s r x y = list_any (λ pair. (pair.0 == x) && (pair.1 == y)) (slice_index_or s.sets r [])

-- the element, the number and the text that a value is, if it is one
abbrev pub element_of : SVal → Option ℕ
element_of (Rec x) = Some x
element_of (Flag b) = None
element_of (Num n) = None
element_of (Str t) = None

abbrev pub number_of : SVal → Option ℤ
number_of (Rec x) = None
number_of (Flag b) = None
number_of (Num n) = Some n
number_of (Str t) = None

abbrev pub text_of : SVal → Option (List ℕ)
text_of (Rec x) = None
text_of (Flag b) = None
text_of (Num n) = None
text_of (Str t) = Some t

-- whether a value is true
abbrev pub is_raised : SVal → Bool
is_raised (Rec x) = false
is_raised (Flag b) = b
is_raised (Num n) = false
is_raised (Str t) = false

-- whether there are two values, and they pass the test
abbrev pub both_pass : {A : Type 0} → (A → A → Bool) → Option A → Option A → Bool
both_pass test None b = false
both_pass test (Some x) None = false
both_pass test (Some x) (Some y) = test x y

-- whether two values are one element, one number or one text
abbrev pub are_equal : SVal → SVal → Bool
are_equal (Rec x) v = both_pass nat_eq (Some x) (element_of v)
are_equal (Flag b) v = false
are_equal (Num n) v = both_pass int_eq (Some n) (number_of v)
are_equal (Str t) v = both_pass (pointwise nat_eq) (Some t) (text_of v)

module _ (s : Structure) (env : List ℕ) where
  -- the value of a term where the variables above have these elements, the outermost first
  abbrev pub value_of : Term → Option SVal
  value_of (bound sort depth) = option_map (λ x. Rec x) (slice_get env depth)
  value_of (num n) = Some (Num n)
  value_of (str t) = Some (Str t)
  value_of (app f t) = option_and_then (entry s f) (option_and_then element_of (value_of t))

  -- the element that a term is, if it is one
  abbrev pub element_at : Term → Option ℕ
  element_at t = option_and_then element_of (value_of t)

  -- what a function has at a term
  abbrev pub entry_at : ℕ → Term → Option SVal
  entry_at f t = option_and_then (entry s f) (element_at t)

-- whether a value is there, and true
abbrev pub is_true_value : Option SVal → Bool
is_true_value None = false
is_true_value (Some v) = is_raised v

-- the truth of a formula where the variables above have these elements; an atom is false where a value is wanting or of another kind
abbrev pub truth : Structure → List ℕ → Formula → Bool
truth s env yes = true
truth s env no = false
truth s env (equal t u) = both_pass are_equal (value_of s env t) (value_of s env u)
truth s env (less t u) = both_pass int_lt (option_and_then number_of (value_of s env t)) (option_and_then number_of (value_of s env u))
truth s env (has r t u) = both_pass (relates s r) (element_at s env t) (element_at s env u)
truth s env (flag f t) = is_true_value (entry_at s env f t)
truth s env (present f t) = is_some (entry_at s env f t)
truth s env (negation a) = not (truth s env a)
truth s env (both a b) = truth s env a && truth s env b
truth s env (either a b) = truth s env a || truth s env b
truth s env (exists sort a) = list_any (λ x. truth s (env ++ x ∷ []) a) (elements s sort)
truth s env (forall sort a) = list_all (λ x. truth s (env ++ x ∷ []) a) (elements s sort)

-- two formulas are true on the same structures, where the variables above have the same elements
abbrev pub IsEquallyTrue : Formula → Formula → Type 0
IsEquallyTrue f g = (s : Structure) (env : List ℕ) → truth s env f ≡ truth s env g
