-- The structure of a table whose terms are numbers: what each of its parts is, by columns over the numbers.
use Rattle.std.specs.Prelude.{ℕ, Bool, true, false, ◌&&◌, List, [], ◌∷◌, ◌++◌, Option, None, Some, cond, length, map, max, pos, option_and_then, unwrap_or, slice_get, position, ◌==◌}
use Rattle.std.specs.List.{find, flat_map, range_with_len, enumerate_from}
use Rattle.std.specs.Option.{option_map, option_to_list}
use Rattle.form_formula.specs.declared.structure.Range.{Range}
use Rattle.form_formula.specs.declared.structure.Range.TheVariants as range
use Rattle.form_formula.specs.declared.structure.FunSig.{FunSig}
use Rattle.form_formula.specs.declared.structure.Signature.{Signature}
use Rattle.form_formula.specs.declared.structure.SVal.{SVal}
use Rattle.form_formula.specs.declared.structure.SVal.TheVariants.{Rec, Flag, Num, Str}
use Rattle.form_formula.specs.declared.structure.Structure.{Structure}
use Rattle.form_formula.specs.Truth.{element_of}
use Rattle.form_terms.specs.GroundTerms.{target_of, is_number}
use Rattle.form_terms.specs.Listing.{unique}
use Rattle.form_terms.specs.Passing.{Choice}
use Rattle.ground_terms.specs.declared.node.TermNode.{TermNode}
use Rattle.ground_terms.specs.declared.node.TermNode.TheVariants.{Constant, Skolem, Field, Empty, Cons}
use Rattle.decide_models.specs.declared.found.Found.{Found}
use Rattle.ground_problem.specs.declared.words.PairNode.{PairNode}
use Rattle.ground_problem.specs.declared.words.Words.{Words}
use Rattle.decide_models.specs.declared.tellers.Teller.{Teller}

-- the number that a term has as an element
abbrev pub class_at : List (Option SVal) → ℕ → Option ℕ
class_at values id = option_and_then (option_and_then element_of) (slice_get values id)

-- the sort of a node that is a term
abbrev pub node_sort : Signature → TermNode → Option ℕ
node_sort g (Constant sort) = Some sort
node_sort g (Skolem number sort ts) = Some sort
node_sort g (Field h t) = target_of g h
node_sort g Empty = None
node_sort g (Cons t ts) = None

abbrev pub sort_at : Signature → List TermNode → ℕ → Option ℕ
sort_at g nodes id = option_and_then (node_sort g) (slice_get nodes id)

-- the constant of a sort is this node
abbrev pub is_constant : ℕ → TermNode → Bool
is_constant sort (Constant n) = n == sort
is_constant sort (Skolem number n ts) = false
is_constant sort (Field h t) = false
is_constant sort Empty = false
is_constant sort (Cons t ts) = false

-- the numbers of the elements of a sort, where these are those of each sort
abbrev pub classes_of : List (List ℕ) → ℕ → List ℕ
classes_of all sort = unwrap_or (slice_get all sort) []

abbrev pub place_in : List (List ℕ) → ℕ → ℕ → ℕ
place_in all sort k = unwrap_or (position (λ j. j == k) (classes_of all sort)) 0

-- elements get their places, and other values stay
abbrev pub moved_value : List (List ℕ) → Range → SVal → SVal
moved_value all (range.Rec sort) (Rec k) = Rec (place_in all sort k)
moved_value all (range.Rec sort) (Flag b) = Flag b
moved_value all (range.Rec sort) (Num n) = Num n
moved_value all (range.Rec sort) (Str t) = Str t
moved_value all range.Flag x = x
moved_value all range.Num x = x
moved_value all range.Str x = x

-- what a total function has where nothing is told, where these are the defaults of the sorts
abbrev pub blank_value : List ℕ → Range → SVal
blank_value defaults (range.Rec sort) = Rec (unwrap_or (slice_get defaults sort) 0)
blank_value defaults range.Flag = Flag false
blank_value defaults range.Num = Num (pos 0)
blank_value defaults range.Str = Str []

-- the element that a term names, where these are the elements that terms name
abbrev pub element_in : List (Option ℕ) → ℕ → Option ℕ
element_in elements id = unwrap_or (slice_get elements id) None

-- the size of a sort, by whether it is empty and the numbers of its elements
abbrev pub size_of_sort : List Bool → List (List ℕ) → ℕ → ℕ
size_of_sort empty all sort = cond (unwrap_or (slice_get empty sort) false) 0 (max 1 (length (classes_of all sort)))

module _ (values : List (Option SVal)) (h : ℕ) where
  -- the number of the function's argument, if the node is the function at an element
  abbrev pub tellers_from : ℕ → TermNode → List Teller
  tellers_from id (Constant sort) = []
  tellers_from id (Skolem number sort ts) = []
  tellers_from id (Field h' t) = cond (h' == h) (map (λ k. record { class = k; term = id }) (option_to_list (class_at values t))) []
  tellers_from id Empty = []
  tellers_from id (Cons t ts) = []

  abbrev pub tellers_in : ℕ → Option TermNode → List Teller
  tellers_in id None = []
  tellers_in id (Some node) = tellers_from id node

  -- the terms that tell of the function, each with the number of its argument
  abbrev pub tellers_at : List TermNode → List ℕ → List Teller
  tellers_at nodes ids = flat_map (λ id. tellers_in id (slice_get nodes id)) ids

module _ (values : List (Option SVal)) (all : List (List ℕ)) (defaults : List ℕ) (sig : FunSig) where
  -- what the function has by the term of this number, if there is one
  abbrev pub told_value : Option ℕ → Option SVal
  told_value None = cond sig.partial None (Some (blank_value defaults sig.to))
  told_value (Some term) = option_map (moved_value all sig.to) (unwrap_or (slice_get values term) None)

  -- what the function has at an element
  abbrev pub entry_at : List Teller → ℕ → Option SVal
  entry_at tellers x = told_value (option_map (λ t. t.term) (find (λ t. t.class == unwrap_or (slice_get (classes_of all sig.from) x) 0) tellers))

  abbrev pub row_at : List Teller → ℕ → List (Option SVal)
  row_at tellers size = map (entry_at tellers) (range_with_len 0 size)

-- the pairs of a set relation that hold, where these are the elements that terms name
abbrev pub related_in : List Bool → List (Option ℕ) → ℕ → ℕ × PairNode → List (ℕ × ℕ)
related_in related elements r p =
    cond ((p.1.relation == r) && unwrap_or (slice_get related p.0) false)
    ((unwrap_or (element_in elements p.1.holder) 0, unwrap_or (element_in elements p.1.member) 0) ∷ []) []

abbrev pub relation_at : List Bool → List (Option ℕ) → List PairNode → ℕ → List (ℕ × ℕ)
relation_at related elements pairs r = flat_map (related_in related elements r) (enumerate_from 0 pairs)

abbrev pub size_list : Signature → List Bool → List (List ℕ) → List ℕ
size_list g empty all = map (size_of_sort empty all) (range_with_len 0 g.sorts)

-- the element of the constant of a sort, where these are the elements that terms name
abbrev pub default_at : List TermNode → List (Option ℕ) → ℕ → ℕ
default_at nodes elements sort = unwrap_or (option_and_then (element_in elements) (position (is_constant sort) nodes)) 0

abbrev pub default_list : Signature → List TermNode → List (Option ℕ) → List ℕ
default_list g nodes elements = map (default_at nodes elements) (range_with_len 0 g.sorts)

-- what a function has at each element of its source, from all that goes before
abbrev pub row_by : List TermNode → Found → List ℕ → List (List ℕ) → List ℕ → ℕ × FunSig → List (Option SVal)
row_by nodes found told all defaults p =
    row_at found.values all defaults p.1 (tellers_at found.values p.0 nodes told) (size_of_sort found.empty all p.1.from)

module _ (g : Signature) (nodes : List TermNode) (found : Found) where
  abbrev pub class_in_sort : ℕ → ℕ → List ℕ
  class_in_sort sort id = cond (is_number (sort_at g nodes id) sort) (option_to_list (class_at found.values id)) []

  -- the numbers that the terms of a sort have
  abbrev pub classes_at : List ℕ → ℕ → List ℕ
  classes_at named sort = unique (λ j k. j == k) (flat_map (class_in_sort sort) named)

  abbrev pub class_lists : List ℕ → List (List ℕ)
  class_lists named = map (classes_at named) (range_with_len 0 g.sorts)

  module _ (all : List (List ℕ)) where
    -- the element that a term names
    abbrev pub element_at : ℕ → Option ℕ
    element_at id = option_and_then (λ sort. option_map (place_in all sort) (class_at found.values id)) (sort_at g nodes id)

    abbrev pub element_list : List (Option ℕ)
    element_list = map element_at (range_with_len 0 (length nodes))

  -- the structure of what was found of these terms and pairs, where the terms of each sort have these numbers and name these elements
  abbrev pub structure_from : Words → List (List ℕ) → List (Option ℕ) → Structure
  structure_from w all elements = record {
    sizes = size_list g found.empty all;
    funs = map (row_by nodes found (w.named.items ++ w.others.items) all (default_list g nodes elements)) (enumerate_from 0 g.funs);
    sets = map (relation_at found.related elements w.pairs.items) (range_with_len 0 (length g.sets));
  }

-- the node is the list without terms
abbrev pub is_no_list : Option TermNode → Bool
is_no_list None = false
is_no_list (Some (Constant sort)) = false
is_no_list (Some (Skolem n sort ts)) = false
is_no_list (Some (Field h t)) = false
is_no_list (Some Empty) = true
is_no_list (Some (Cons t ts)) = false

-- the node is the variable of an `exists` below no `forall`, by its number
abbrev pub is_own_variable : List TermNode → ℕ → Option TermNode → Bool
is_own_variable nodes number None = false
is_own_variable nodes number (Some (Constant sort)) = false
is_own_variable nodes number (Some (Skolem n sort ts)) = (n == number) && is_no_list (slice_get nodes ts)
is_own_variable nodes number (Some (Field h t)) = false
is_own_variable nodes number (Some Empty) = false
is_own_variable nodes number (Some (Cons t ts)) = false

abbrev pub is_variable_at : List TermNode → ℕ → ℕ → Bool
is_variable_at nodes number id = is_own_variable nodes number (slice_get nodes id)

-- the elements of such variables
abbrev pub choice_by : List TermNode → List ℕ → List (Option ℕ) → Choice
choice_by nodes named elements = record {
  constant = λ sort. None;
  variable = λ number xs. option_and_then (element_in elements) (find (is_variable_at nodes number) named);
}
