-- How many terms and nodes an instantiation has.
use Rattle.std.specs.Prelude.{ℕ, zero, suc, ◌+◌, ◌*◌, ◌<◌, ◌⊎◌, min, List, [], ◌∷◌, cond, length, map, Option, None, Some, ◌==◌}
use Rattle.std.specs.List.{filter, range_with_len}
use Rattle.form_formula.specs.declared.structure.Signature.{Signature}
use Rattle.form_formula.specs.Trees.{Term, Formula, bound, num, str, app, yes, no, equal, less, has, flag, present, negation, both, either, exists, forall}
use Rattle.form_terms.specs.GroundTerms.{source_of, target_of, is_number}
use Rattle.form_terms.specs.Parts.{Variable}
use Rattle.form_terms.specs.Listing.{of_sort, first_terms, functions, is_plain, skolem_variables}
use Rattle.form_terms.specs.Limits.{most_terms, most_nodes, most_counted}

abbrev pub sum_of : List ℕ → ℕ
sum_of [] = 0
sum_of (n ∷ ns) = n + sum_of ns

abbrev pub product_of : List ℕ → ℕ
product_of [] = 1
product_of (n ∷ ns) = n * product_of ns

-- the nodes of a term: one for each variable, literal and function
abbrev pub term_nodes : Term → ℕ
term_nodes (bound sort depth) = 1
term_nodes (num n) = 1
term_nodes (str t) = 1
term_nodes (app h t) = 1 + term_nodes t

-- the size of a formula where each `forall` is written out over so many terms of its sort
abbrev pub nodes_over : (ℕ → ℕ) → Formula → ℕ
nodes_over count yes = 1
nodes_over count no = 1
nodes_over count (equal t u) = 1 + (term_nodes t + term_nodes u)
nodes_over count (less t u) = 1 + (term_nodes t + term_nodes u)
nodes_over count (has r t u) = 1 + (term_nodes t + term_nodes u)
nodes_over count (flag h t) = 1 + term_nodes t
nodes_over count (present h t) = 1 + term_nodes t
nodes_over count (negation a) = nodes_over count a
nodes_over count (both a b) = 1 + (nodes_over count a + nodes_over count b)
nodes_over count (either a b) = 1 + (nodes_over count a + nodes_over count b)
nodes_over count (exists sort a) = 1 + nodes_over count a
nodes_over count (forall sort a) = 1 + count sort * nodes_over count a

-- a count stays at the last number that is counted
abbrev pub counted : ℕ → ℕ
counted n = min n most_counted

module _ (g : Signature) (f : Formula) where
  module _ (count : ℕ → ℕ) where
    -- the terms of a sort that a function adds, where so many terms of each sort are there
    abbrev pub added_by_source : Option ℕ → ℕ
    added_by_source None = 0
    added_by_source (Some sort) = count sort

    abbrev pub added_by_function : ℕ → ℕ → ℕ
    added_by_function sort h = cond (is_number (target_of g h) sort) (added_by_source (source_of g h)) 0

    -- and those that a Skolem variable adds
    abbrev pub added_by_variable : ℕ → Variable → ℕ
    added_by_variable sort v = cond (v.sort == sort) (product_of (map count v.above)) 0

  -- the terms of a sort that arise within so many rounds: those whose outermost function is not applied, for each function that is
  -- applied as many as its source has, and for each Skolem variable the product of what the sorts of its arguments have
  abbrev pub count_after : ℕ → ℕ → ℕ
  count_after zero sort = length (of_sort g f sort (first_terms g f))
  count_after (suc n) sort =
      length (of_sort g f sort (filter (is_plain g f) (first_terms g f)))
      + (sum_of (map (added_by_function (count_after n) sort) (functions g f)) + sum_of (map (added_by_variable (count_after n) sort) (skolem_variables g f)))

  abbrev pub terms_counted : ℕ → ℕ
  terms_counted n = sum_of (map (count_after n) (range_with_len 0 g.sorts))

  -- the counts of a stratified formula, along its sort graph
  abbrev pub term_count : ℕ
  term_count = counted (terms_counted g.sorts)

  abbrev pub node_count : ℕ
  node_count = counted (nodes_over (count_after g.sorts) f)

  -- the counts of the terms that arise in two rounds
  abbrev pub shallow_term_count : ℕ
  shallow_term_count = counted (terms_counted 2)

  abbrev pub shallow_node_count : ℕ
  shallow_node_count = counted (nodes_over (count_after 2) f)

-- the counts are above a limit
abbrev pub IsTooLarge : ℕ → ℕ → Type 0
IsTooLarge terms nodes = (most_terms < terms) ⊎ (most_nodes < nodes)
