-- The table of a structure, and the structure of a table.
use Rattle.std.specs.Prelude.{ℕ, Bool, true, false, ◌&&◌, List, [], ◌∷◌, Option, None, Some, cond, length, map, max, pos, nat_lt, option_and_then, unwrap_or, slice_index_or, ◌==◌}
use Rattle.std.specs.List.{find, filter, flat_map, position, range_with_len, enumerate_from}
use Rattle.std.specs.Option.{option_map, option_to_list}
use Rattle.form_formula.specs.declared.structure.Range.{Range}
use Rattle.form_formula.specs.declared.structure.Range.TheVariants as range
use Rattle.form_formula.specs.declared.structure.FunSig.{FunSig}
use Rattle.form_formula.specs.declared.structure.SetSig.{SetSig}
use Rattle.form_formula.specs.declared.structure.Signature.{Signature}
use Rattle.form_formula.specs.declared.structure.SVal.{SVal}
use Rattle.form_formula.specs.declared.structure.SVal.TheVariants.{Rec, Flag, Num, Str}
use Rattle.form_formula.specs.declared.structure.Structure.{Structure}
use Rattle.form_formula.specs.Truth.{size_of, entry, relates, both_pass, element_of}
use Rattle.form_terms.specs.GroundTerms.{GroundTerm, GroundTerms, constant, skolem, field, no_terms, term_and, sort_of, is_number}
use Rattle.form_terms.specs.Listing.{unique}
use Rattle.form_terms.specs.Passing.{Choice, element_named}
use Rattle.form_tables.specs.Vocabulary.{Vocabulary, told}
use Rattle.form_tables.specs.Table.{Table}

module _ (s : Structure) (c : Choice) where
  -- what a ground term has in a structure
  abbrev pub value_in : GroundTerm → Option SVal
  value_in (constant sort) = option_map (λ x. Rec x) (element_named s c (constant sort))
  value_in (skolem number sort ts) = option_map (λ x. Rec x) (element_named s c (skolem number sort ts))
  value_in (field h t) = option_and_then (entry s h) (element_named s c t)

  abbrev pub table_of : Table
  table_of = record {
    value = value_in;
    has = λ r t u. both_pass (relates s r) (element_named s c t) (element_named s c u);
    is_empty = λ sort. size_of s sort == 0;
  }

module _ (g : Signature) (v : Vocabulary) (table : Table) where
  -- the number that a term has in the table as an element
  abbrev pub class_of : GroundTerm → Option ℕ
  class_of t = option_and_then element_of (table.value t)

  abbrev pub class_in : ℕ → GroundTerm → List ℕ
  class_in sort t = cond (is_number (sort_of g t) sort) (option_to_list (class_of t)) []

  -- the numbers that terms of a sort have
  abbrev pub classes : ℕ → List ℕ
  classes sort = unique (λ j k. j == k) (flat_map (class_in sort) v.named)

  -- each is an element; a sort without terms that is not empty has one
  abbrev pub made_size : ℕ → ℕ
  made_size sort = cond (table.is_empty sort) 0 (max 1 (length (classes sort)))

  abbrev pub place : ℕ → ℕ → ℕ
  place sort k = unwrap_or (position (λ j. j == k) (classes sort)) 0

  -- the element that a term names
  abbrev pub element : GroundTerm → Option ℕ
  element t = option_and_then (λ sort. option_map (place sort) (class_of t)) (sort_of g t)

  -- the element of the constant; or the first, which is the only one of a sort without terms
  abbrev pub default : ℕ → ℕ
  default sort = unwrap_or (element (constant sort)) 0

  -- elements get their places, and other values stay
  abbrev pub made_value : Range → SVal → SVal
  made_value (range.Rec sort) (Rec k) = Rec (place sort k)
  made_value (range.Rec sort) (Flag b) = Flag b
  made_value (range.Rec sort) (Num n) = Num n
  made_value (range.Rec sort) (Str t) = Str t
  made_value range.Flag x = x
  made_value range.Num x = x
  made_value range.Str x = x

  -- what a total function has where the table tells nothing
  abbrev pub blank : Range → SVal
  blank (range.Rec sort) = Rec (default sort)
  blank range.Flag = Flag false
  blank range.Num = Num (pos 0)
  blank range.Str = Str []

  -- whether a term is the function at a term with this number
  abbrev pub is_at : ℕ → ℕ → GroundTerm → Bool
  is_at h k (constant sort) = false
  is_at h k (skolem number sort ts) = false
  is_at h k (field h' t) = (h' == h) && is_number (class_of t) k

  -- what a function has, by the term that tells it
  abbrev pub made_entry : FunSig → Option GroundTerm → Option SVal
  made_entry sig None = cond sig.partial None (Some (blank sig.to))
  made_entry sig (Some t) = option_map (made_value sig.to) (table.value t)

  abbrev pub made_function : ℕ × FunSig → List (Option SVal)
  made_function p =
      map (λ x. made_entry p.1 (find (is_at p.0 (slice_index_or (classes p.1.from) x 0)) (told v))) (range_with_len 0 (made_size p.1.from))

  -- the pairs of elements whose terms are related
  abbrev pub made_relation : ℕ × SetSig → List (ℕ × ℕ)
  made_relation p =
      map (λ q. (unwrap_or (element q.holder) 0, unwrap_or (element q.member) 0))
      (filter (λ q. (q.relation == p.0) && table.has q.relation q.holder q.member) v.pairs)

  abbrev pub made : Structure
  made = record {
    sizes = map made_size (range_with_len 0 g.sorts);
    funs = map made_function (enumerate_from 0 g.funs);
    sets = map made_relation (enumerate_from 0 g.sets);
  }

  -- whether terms name these elements
  abbrev pub are_at : List ℕ → GroundTerms → Bool
  are_at [] no_terms = true
  are_at [] (term_and t ts) = false
  are_at (x ∷ xs) no_terms = false
  are_at (x ∷ xs) (term_and t ts) = is_number (element t) x && are_at xs ts

  -- whether a term is the variable at terms that name these elements
  abbrev pub is_variable : ℕ → List ℕ → GroundTerm → Bool
  is_variable number xs (constant sort) = false
  is_variable number xs (skolem number' sort ts) = (number' == number) && are_at xs ts
  is_variable number xs (field h t) = false

  abbrev pub made_choice : Choice
  made_choice = record {
    constant = λ sort. cond (nat_lt 0 (size_of made sort)) (Some (default sort)) None;
    variable = λ number xs. option_and_then element (find (is_variable number xs) v.named);
  }
