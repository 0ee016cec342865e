-- What was found of numbered terms is what a table has of the terms.
use Rattle.std.proofs.Common.{◌≡◌, ℕ, zero, suc, ◌<◌, Bool, true, refl, sym, ◌∙◌, List, [], ◌∷◌, Option, Some, None, length, cond, map, ap, arith, slice_get}
use Rattle.std.specs.Prelude.{option_and_then, unwrap_or, ◌==◌, max, position}
use Rattle.std.specs.List.{flat_map, range_with_len}
use Rattle.std.specs.Option.{option_map, option_to_list}
use Rattle.form_formula.specs.declared.structure.Signature.{Signature}
use Rattle.form_formula.specs.declared.structure.SVal.{SVal}
use Rattle.form_formula.specs.Truth.{element_of}
use Rattle.form_terms.specs.GroundTerms.{sort_of, is_number}
use Rattle.form_terms.specs.Listing.{unique}
use Rattle.ground_terms.specs.declared.node.TermNode.{TermNode}
use Rattle.ground_terms.specs.declared.node.TermNode.TheVariants.{Constant, Skolem, Field, Empty, Cons}
use Rattle.ground_terms.specs.Nodes.{term_part, tree_from, trees_of, term_of, IsOne, kind_at, is_one, ArePlaced}
use Rattle.ground_terms.proofs.TreeLemmas.{tree_of-at}
use Rattle.ground_terms.specs.Standing.{AreOnes, terms_at}
use Rattle.form_tables.specs.Vocabulary.{Vocabulary}
use Rattle.form_tables.specs.Table.{Table}
use Rattle.form_tables.specs.Made.{class_of, class_in, classes, made_size, place, element}
use Rattle.decide_models.specs.declared.found.Found.{Found}
use Rattle.ground_problem.specs.declared.words.Words.{Words}
use Rattle.ground_problem.specs.Words.{vocabulary_at}
use Rattle.decide_models.specs.Found.{IsFound}
use Rattle.decide_models.specs.Columns.{class_at, node_sort, sort_at, classes_of, place_in, element_in, size_of_sort, class_in_sort, classes_at, class_lists, element_at, element_list, size_list}
use Rattle.decide_models.proofs.Lists.{range_same, slice_get-range}

-- the node of a number
pub node_at : (nodes : List TermNode) (id : ℕ) (b : Bool) → kind_at nodes id ≡ Some b → (n : TermNode) × (slice_get nodes id ≡ Some n) × (is_one n ≡ b)
node_at nodes id b h = own (slice_get nodes id) refl h
  where
    own : (o : Option TermNode) → slice_get nodes id ≡ o → option_map is_one o ≡ Some b → (n : TermNode) × (slice_get nodes id ≡ Some n) × (is_one n ≡ b)
    own None e h = cc
    own (Some n) e h = (n, e, (let same : is_one n ≡ b = cc in same))

pub term_at_node : (nodes : List TermNode) (id : ℕ) (n : TermNode) → ArePlaced nodes → slice_get nodes id ≡ Some n → term_of nodes id ≡ term_part (tree_from (trees_of nodes) n)
term_at_node nodes id n placed e = ap term_part (tree_of-at nodes id n placed e)

flat_class : (o : Option (Option SVal)) → option_and_then (option_and_then element_of) o ≡ option_and_then element_of (unwrap_or o None)
flat_class None = refl
flat_class (Some x) = refl

pub value_or : {X : Type 0} (o : Option X) (x d : X) → o ≡ Some x → unwrap_or o d ≡ x
value_or o x d e = ap (λ o. unwrap_or o d) e

module _ (g : Signature) (nodes : List TermNode) (w : Words) (found : Found) (table : Table) (placed : ArePlaced nodes) (told : IsFound g nodes w.pairs.items found table) where
  abbrev v : Vocabulary
  v = vocabulary_at nodes w

  pub class_same : (id : ℕ) → IsOne nodes id → class_at found.values id ≡ class_of g v table (term_of nodes id)
  class_same id h = flat_class (slice_get found.values id) ∙ ap (option_and_then element_of) (sym (told.values id h))

  pub sort_same : (id : ℕ) → IsOne nodes id → sort_at g nodes id ≡ sort_of g (term_of nodes id)
  sort_same id h =
      let (n, e, own) = node_at nodes id true h in
      ap (option_and_then (node_sort g)) e ∙ (by n own ∙ ap (sort_of g) (sym (term_at_node nodes id n placed e)))
    where
      by : (n : TermNode) → is_one n ≡ true → node_sort g n ≡ sort_of g (term_part (tree_from (trees_of nodes) n))
      by (Constant sort) own = refl
      by (Skolem number sort ts) own = refl
      by (Field h t) own = refl
      by Empty own = cc
      by (Cons t ts) own = cc

  class_in_same : (sort id : ℕ) → IsOne nodes id → class_in_sort g nodes found sort id ≡ class_in g v table sort (term_of nodes id)
  class_in_same sort id h =
      ap (λ o. cond (is_number o sort) (option_to_list (class_at found.values id)) []) (sort_same id h)
      ∙ ap (λ o. cond (is_number (sort_of g (term_of nodes id)) sort) (option_to_list o) []) (class_same id h)

  classes_in_same : (sort : ℕ) (ids : List ℕ) → AreOnes nodes ids → flat_map (class_in_sort g nodes found sort) ids ≡ flat_map (class_in g v table sort) (terms_at nodes ids)
  classes_in_same sort [] h = refl
  classes_in_same sort (id ∷ ids) h =
      let here = class_in_same sort id h.0 in
      let later = classes_in_same sort ids h.1 in cc

  module _ (ones : AreOnes nodes w.named.items) where
    abbrev all : List (List ℕ)
    all = class_lists g nodes found w.named.items

    classes_same : (sort : ℕ) → classes_at g nodes found w.named.items sort ≡ classes g v table sort
    classes_same sort = ap (unique (λ j k. j == k)) (classes_in_same sort w.named.items ones)

    pub all_same : (sort : ℕ) → sort < g.sorts → classes_of all sort ≡ classes g v table sort
    all_same sort lt = value_or (slice_get all sort) (classes_at g nodes found w.named.items sort) [] (slice_get-range (classes_at g nodes found w.named.items) g.sorts sort lt) ∙ classes_same sort

    pub size_same : (sort : ℕ) → sort < g.sorts → size_of_sort found.empty all sort ≡ made_size g v table sort
    size_same sort lt =
        ap (λ b. cond b 0 (max 1 (length (classes_of all sort)))) (sym (told.empty sort lt))
        ∙ ap (λ ks. cond (table.is_empty sort) 0 (max 1 (length ks))) (all_same sort lt)

    pub sizes_same : size_list g found.empty all ≡ map (made_size g v table) (range_with_len 0 g.sorts)
    sizes_same = range_same (size_of_sort found.empty all) (made_size g v table) 0 g.sorts (λ k lt. size_same k (omega (arith, lt)))

    pub place_same : (sort k : ℕ) → sort < g.sorts → place_in all sort k ≡ place g v table sort k
    place_same sort k lt = ap (λ ks. unwrap_or (position (λ j. j == k) ks) 0) (all_same sort lt)

    -- the elements that terms name
    pub element_same : (id sort : ℕ) → IsOne nodes id → sort_of g (term_of nodes id) ≡ Some sort → sort < g.sorts
        → element_at g nodes found all id ≡ element g v table (term_of nodes id)
    element_same id sort h kind lt =
        let t = term_of nodes id in
        ap (λ o. option_and_then (λ sort. option_map (place_in all sort) (class_at found.values id)) o) (sort_same id h ∙ kind)
        ∙ (ap (option_map (place_in all sort)) (class_same id h)
        ∙ (by (class_of g v table t) ∙ ap (λ o. option_and_then (λ sort. option_map (place g v table sort) (class_of g v table t)) o) (sym kind)))
      where
        by : (o : Option ℕ) → option_map (place_in all sort) o ≡ option_map (place g v table sort) o
        by None = refl
        by (Some k) = ap (λ n. Some n) (place_same sort k lt)

    abbrev elements : List (Option ℕ)
    elements = element_list g nodes found all

    pub column_same : (id sort : ℕ) → IsOne nodes id → sort_of g (term_of nodes id) ≡ Some sort → sort < g.sorts
        → element_in elements id ≡ element g v table (term_of nodes id)
    column_same id sort h kind lt =
        let (n, e, own) = node_at nodes id true h in
        value_or (slice_get elements id) (element_at g nodes found all id) None (slice_get-range (element_at g nodes found all) (length nodes) id (within nodes id n e)) ∙ element_same id sort h kind lt
      where
        within : (nodes : List TermNode) (id : ℕ) (n : TermNode) → slice_get nodes id ≡ Some n → id < length nodes
        within [] id n e = cc
        within (m ∷ nodes) zero n e = omega arith
        within (m ∷ nodes) (suc id) n e = omega (arith, within nodes id n e)
