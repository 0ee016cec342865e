-- The elements of the variables that a formula begins with are those that the table chooses.
use Rattle.std.proofs.Common.{◌≡◌, ℕ, ◌+◌, Bool, true, false, ◌&&◌, refl, sym, ◌∙◌, List, [], ◌∷◌, Option, Some, cond, ap, slice_get, Contains}
use Rattle.std.specs.Prelude.{option_and_then, unwrap_or, ◌==◌}
use Rattle.std.specs.List.{find}
use Rattle.form_formula.specs.declared.structure.Signature.{Signature}
use Rattle.form_formula.specs.Trees.{Formula, yes, no, equal, less, has, flag, present, negation, both, either, exists, forall}
use Rattle.form_terms.specs.Passing.{Choice}
use Rattle.form_terms.specs.Satisfying.{leading_elements}
use Rattle.ground_terms.specs.declared.node.TermNode.{TermNode}
use Rattle.ground_terms.specs.declared.node.TermNode.TheVariants.{Constant, Skolem, Field, Empty, Cons}
use Rattle.ground_terms.specs.Nodes.{term_part, list_part, tree_from, trees_of, term_of, list_of, IsOne, IsList, is_one, ArePlaced}
use Rattle.ground_terms.proofs.Placement.{parts_placed}
use Rattle.ground_terms.proofs.TreeLemmas.{tree_of-at}
use Rattle.form_terms.proofs.Lists.{Contains-head, Contains-tail}
use Rattle.ground_terms.specs.Standing.{AreOnes, terms_at}
use Rattle.form_tables.specs.Vocabulary.{Vocabulary}
use Rattle.form_tables.specs.Table.{Table}
use Rattle.form_tables.specs.Made.{element, are_at, is_variable, made_choice}
use Rattle.decide_models.specs.declared.found.Found.{Found}
use Rattle.ground_problem.specs.declared.words.Words.{Words}
use Rattle.ground_problem.specs.Words.{vocabulary_at}
use Rattle.decide_models.specs.Found.{IsFound}
use Rattle.decide_models.specs.Columns.{element_in, class_lists, element_list, is_no_list, is_own_variable, is_variable_at, choice_by}
use Rattle.decide_models.proofs.Agreement.{node_at, term_at_node, column_same}
use Rattle.decide_models.proofs.MadeSame.{HasSort}

-- the elements depend on what is chosen for each variable that has no arguments
same_leading : (c d : Choice) → ((number : ℕ) → c.variable number [] ≡ d.variable number []) → (number : ℕ) (f : Formula) → leading_elements c number f ≡ leading_elements d number f
same_leading c d same number yes = refl
same_leading c d same number no = refl
same_leading c d same number (equal t u) = refl
same_leading c d same number (less t u) = refl
same_leading c d same number (has r t u) = refl
same_leading c d same number (flag f t) = refl
same_leading c d same number (present f t) = refl
same_leading c d same number (negation a) = refl
same_leading c d same number (both a b) = refl
same_leading c d same number (either a b) = refl
same_leading c d same number (exists sort a) =
    let here = ap (λ o. unwrap_or o 0) (same number) in
    let later = same_leading c d same (number + 1) a in cc
same_leading c d same number (forall sort a) = refl

module _ (g : Signature) (nodes : List TermNode) (w : Words) (found : Found) (table : Table) (placed : ArePlaced nodes) (told : IsFound g nodes w.pairs.items found table)
    (ones : AreOnes nodes w.named.items) where
  abbrev v : Vocabulary
  v = vocabulary_at nodes w

  abbrev elements : List (Option ℕ)
  elements = element_list g nodes found (class_lists g nodes found w.named.items)

  -- the list of a number has no terms exactly where its node has none
  list_same : (ts : ℕ) → IsList nodes ts → is_no_list (slice_get nodes ts) ≡ are_at g v table [] (list_of nodes ts)
  list_same ts h =
      let (n, e, own) = node_at nodes ts false h in
      ap is_no_list e ∙ (by n own ∙ ap (are_at g v table []) (sym (ap list_part (tree_of-at nodes ts n placed e))))
    where
      by : (n : TermNode) → is_one n ≡ false → is_no_list (Some n) ≡ are_at g v table [] (list_part (tree_from (trees_of nodes) n))
      by (Constant sort) own = cc
      by (Skolem number sort ts) own = cc
      by (Field h t) own = cc
      by Empty own = refl
      by (Cons t ts) own = refl

  module _ (number : ℕ) where
    variable_same : (id : ℕ) → IsOne nodes id → is_variable_at nodes number id ≡ is_variable g v table number [] (term_of nodes id)
    variable_same id h =
        let (n, e, own) = node_at nodes id true h in
        ap (is_own_variable nodes number) e ∙ (by n own e ∙ ap (is_variable g v table number []) (sym (term_at_node nodes id n placed e)))
      where
        by : (n : TermNode) → is_one n ≡ true → slice_get nodes id ≡ Some n → is_own_variable nodes number (Some n) ≡ is_variable g v table number [] (term_part (tree_from (trees_of nodes) n))
        by (Constant sort) own e = refl
        by (Skolem m sort ts) own e = ap (λ b. (m == number) && b) (list_same ts (parts_placed nodes id (Skolem m sort ts) placed e))
        by (Field h t) own e = refl
        by Empty own e = cc
        by (Cons t ts) own e = cc

    chosen_same : (ids : List ℕ) → AreOnes nodes ids → ((id : ℕ) → Contains ids id → HasSort g nodes w found table placed told ones id)
        → option_and_then (element_in elements) (find (is_variable_at nodes number) ids) ≡ option_and_then (element g v table) (find (is_variable g v table number []) (terms_at nodes ids))
    chosen_same [] h sorted = refl
    chosen_same (id ∷ ids) h sorted =
        let (sort, kind, lt) = sorted id (Contains-head id ids) in
        let later = chosen_same ids h.1 (λ k c. sorted k (Contains-tail id ids k c)) in
        let here = column_same g nodes w found table placed told ones id sort h.0 kind lt in
        ap (λ b. option_and_then (element_in elements) (cond b (Some id) (find (is_variable_at nodes number) ids))) (variable_same id h.0)
        ∙ by (is_variable g v table number [] (term_of nodes id)) here later
      where
        by : (b : Bool) → element_in elements id ≡ element g v table (term_of nodes id)
            → option_and_then (element_in elements) (find (is_variable_at nodes number) ids) ≡ option_and_then (element g v table) (find (is_variable g v table number []) (terms_at nodes ids))
            → option_and_then (element_in elements) (cond b (Some id) (find (is_variable_at nodes number) ids))
            ≡ option_and_then (element g v table) (cond b (Some (term_of nodes id)) (find (is_variable g v table number []) (terms_at nodes ids)))
        by true here later = here
        by false here later = later

  pub leading_same : ((id : ℕ) → Contains w.named.items id → HasSort g nodes w found table placed told ones id) → (f : Formula)
      → leading_elements (choice_by nodes w.named.items elements) 0 f ≡ leading_elements (made_choice g v table) 0 f
  leading_same sorted f = same_leading (choice_by nodes w.named.items elements) (made_choice g v table) (λ number. chosen_same number w.named.items ones sorted) 0 f
