-- A structure cut down to the elements that terms name.
use Rattle.std.specs.Prelude.{◌≡◌, ◌<◌, ◌⊎◌, Contains, ℕ, ◌+◌, ◌∷◌, Bool, ◌&&◌, ◌||◌, List, [], cond, length, map, Option, None, Some, slice_get, slice_index_or, ◌==◌}
use Rattle.std.specs.List.{list_any, filter, range_with_len, position_or_len, enumerate_from}
use Rattle.std.specs.Option.{option_map, option_or}
use Rattle.form_formula.specs.declared.structure.Range.{Range}
use Rattle.form_formula.specs.declared.structure.Range.TheVariants as range
use Rattle.form_formula.specs.declared.structure.FunSig.{FunSig}
use Rattle.form_formula.specs.declared.structure.SetSig.{SetSig}
use Rattle.form_formula.specs.declared.structure.Signature.{Signature}
use Rattle.form_formula.specs.declared.structure.SVal.{SVal}
use Rattle.form_formula.specs.declared.structure.SVal.TheVariants.{Rec, Flag, Num, Str}
use Rattle.form_formula.specs.declared.structure.Structure.{Structure}
use Rattle.form_formula.specs.Trees.{Formula, yes, no, equal, less, has, flag, present, negation, both, either, exists, forall}
use Rattle.form_formula.specs.Truth.{size_of, elements, entry}
use Rattle.form_terms.specs.GroundTerms.{GroundTerm, sort_of, is_number}
use Rattle.form_terms.specs.Passing.{Choice, element_named, IsNamed}

module _ (g : Signature) (s : Structure) (c : Choice) (terms : List GroundTerm) where
  -- whether a term names an element, as one of the sort
  abbrev pub names_it : ℕ → ℕ → GroundTerm → Bool
  names_it sort x t = is_number (sort_of g t) sort && is_number (element_named s c t) x

  -- what an element stands for that no term names: the constant of its sort, or else the first element
  abbrev pub default_of : ℕ → Option ℕ
  default_of sort = option_or (c.constant sort) (slice_get (elements s sort) 0)

  -- the elements that terms name are kept, and the default
  abbrev pub is_kept : ℕ → ℕ → Bool
  is_kept sort x = list_any (names_it sort x) terms || is_number (default_of sort) x

  abbrev pub kept : ℕ → List ℕ
  kept sort = filter (is_kept sort) (elements s sort)

  -- the new number of an element that is kept
  abbrev pub place_of : ℕ → ℕ → ℕ
  place_of sort x = position_or_len (λ y. y == x) (kept sort)

  -- and of an element if there is one
  abbrev pub place_of_option : Option ℕ → ℕ → ℕ
  place_of_option None sort = 0
  place_of_option (Some x) sort = place_of sort x

  -- the new numbers of the variables of the `exists` that a formula begins with, the first of which has this number
  abbrev pub leading_places : ℕ → Formula → List ℕ
  leading_places number yes = []
  leading_places number no = []
  leading_places number (equal t u) = []
  leading_places number (less t u) = []
  leading_places number (has r t u) = []
  leading_places number (flag f t) = []
  leading_places number (present f t) = []
  leading_places number (negation a) = []
  leading_places number (both a b) = []
  leading_places number (either a b) = []
  leading_places number (exists sort a) = place_of_option (c.variable number []) sort ∷ leading_places (number + 1) a
  leading_places number (forall sort a) = []

  -- the new number of any
  abbrev pub moved : ℕ → ℕ → ℕ
  moved sort x = cond (is_kept sort x) (place_of sort x) (place_of_option (default_of sort) sort)

  -- elements get new numbers, and other values stay
  abbrev pub moved_value : Range → SVal → SVal
  moved_value (range.Rec sort) (Rec x) = Rec (moved sort x)
  moved_value (range.Rec sort) (Flag b) = Flag b
  moved_value (range.Rec sort) (Num n) = Num n
  moved_value (range.Rec sort) (Str t) = Str t
  moved_value range.Flag v = v
  moved_value range.Num v = v
  moved_value range.Str v = v

  -- what a function has at the elements that are kept
  abbrev pub table_of : ℕ × FunSig → List (Option SVal)
  table_of p = map (λ x. option_map (moved_value p.1.to) (entry s p.0 x)) (kept p.1.from)

  -- the pairs of elements that are kept
  abbrev pub pairs_of : ℕ × SetSig → List (ℕ × ℕ)
  pairs_of p =
      map (λ pair. (place_of p.1.from pair.0, place_of p.1.to pair.1))
      (filter (λ pair. is_kept p.1.from pair.0 && is_kept p.1.to pair.1) (slice_index_or s.sets p.0 []))

  abbrev pub cut : Structure
  cut = record {
    sizes = map (λ sort. length (kept sort)) (range_with_len 0 g.sorts);
    funs = map table_of (enumerate_from 0 g.funs);
    sets = map pairs_of (enumerate_from 0 g.sets);
  }

  -- each element is named by a term, or the default of its sort
  abbrev pub IsNamedThroughout : Type 0
  IsNamedThroughout = (sort x : ℕ) → x < size_of s sort → IsNamed g s c (Contains terms) sort x ⊎ (default_of sort ≡ Some x)
