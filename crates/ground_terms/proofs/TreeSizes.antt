-- Sizes of what numbers stand for.
use Rattle.std.proofs.Common.{◌≡◌, ℕ, ◌+◌, ◌*◌, ◌<◌, Bool, true, false, refl, sym, ◌∙◌, List, [], ◌∷◌, ◌++◌, Option, Some, None, length, ap, subst, arith, below_more}
use Rattle.std.specs.Prelude.{slice_get}
use Rattle.std.specs.Option.{option_map}
use Rattle.std.proofs.lemmas.List.{get_or_append_left}
use Rattle.std.proofs.Math.Seq.{get_or-append_seam}
use Rattle.form_formula.specs.declared.node.Node.{Node}
use Rattle.form_formula.specs.declared.node.Node.TheVariants.{Bound, Num, Str, App, Yes, No, Eq, Less, Has, Flag, Present, Not, And, Or, Exists, Forall}
use Rattle.form_formula.specs.declared.structure.Signature.{Signature}
use Rattle.form_formula.specs.Nodes.{Tree, term, formula, term_part, formula_part, term_of, formula_of, tree_of, tree_from, trees_of, is_term, IsTerm, IsFormula, IsPlaced, ArePlaced, IsBelow}
use Rattle.form_formula.specs.Over.{IsOver}
use Rattle.form_formula.specs.Trees.{Formula, yes, no, equal, less, has, flag, present, negation, both, either, exists, forall}
use Rattle.form_formula.proofs.TreeLemmas.{tree_of-at}
use Rattle.form_terms.specs.Counts.{counted, term_nodes, nodes_over}
use Rattle.ground_terms.specs.Counting.{IsAlike, count_in, tree_size, node_size}
use Rattle.ground_terms.proofs.Alike.{alike_sum, alike_product}

-- what the kind of a node says of its tree
a_term : (trees : List Tree) (n : Node) → is_term n ≡ true → tree_from trees n ≡ term (term_part (tree_from trees n))
a_term trees (Bound sort depth) e = refl
a_term trees (Num n) e = refl
a_term trees (Str t) e = refl
a_term trees (App f t) e = refl
a_term trees Yes e = cc
a_term trees No e = cc
a_term trees (Eq s t) e = cc
a_term trees (Less s t) e = cc
a_term trees (Has r s t) e = cc
a_term trees (Flag f t) e = cc
a_term trees (Present f t) e = cc
a_term trees (Not a) e = cc
a_term trees (And a b) e = cc
a_term trees (Or a b) e = cc
a_term trees (Exists sort a) e = cc
a_term trees (Forall sort a) e = cc

a_formula : (trees : List Tree) (n : Node) → is_term n ≡ false → tree_from trees n ≡ formula (formula_part (tree_from trees n))
a_formula trees (Bound sort depth) e = cc
a_formula trees (Num n) e = cc
a_formula trees (Str t) e = cc
a_formula trees (App f t) e = cc
a_formula trees Yes e = refl
a_formula trees No e = refl
a_formula trees (Eq s t) e = refl
a_formula trees (Less s t) e = refl
a_formula trees (Has r s t) e = refl
a_formula trees (Flag f t) e = refl
a_formula trees (Present f t) e = refl
a_formula trees (Not a) e = refl
a_formula trees (And a b) e = refl
a_formula trees (Or a b) e = refl
a_formula trees (Exists sort a) e = refl
a_formula trees (Forall sort a) e = refl

module _ (nodes : List Node) (placed : ArePlaced nodes) where
  node_of : (id : ℕ) (b : Bool) → option_map is_term (slice_get nodes id) ≡ Some b → (n : Node) × (slice_get nodes id ≡ Some n) × (is_term n ≡ b)
  node_of id b h = choose (slice_get nodes id) refl h
    where
      choose : (o : Option Node) → slice_get nodes id ≡ o → option_map is_term o ≡ Some b → (n : Node) × (o ≡ Some n) × (is_term n ≡ b)
      choose None e h = cc
      choose (Some n) e h = (n, refl, (cc))

  pub term_tree : (id : ℕ) → IsTerm nodes id → tree_of nodes id ≡ term (term_of nodes id)
  term_tree id h =
      let found = node_of id true h in
      let at : tree_of nodes id ≡ tree_from (trees_of nodes) found.0 = tree_of-at nodes id found.0 placed found.1 in
      at ∙ (a_term (trees_of nodes) found.0 found.2 ∙ ap (λ t. term (term_part t)) (sym at))

  pub formula_tree : (id : ℕ) → IsFormula nodes id → tree_of nodes id ≡ formula (formula_of nodes id)
  formula_tree id h =
      let found = node_of id false h in
      let at : tree_of nodes id ≡ tree_from (trees_of nodes) found.0 = tree_of-at nodes id found.0 placed found.1 in
      at ∙ (a_formula (trees_of nodes) found.0 found.2 ∙ ap (λ t. formula (formula_part t)) (sym at))

  module _ (count : ℕ → ℕ) (sizes : List ℕ) (each : (k : ℕ) → k < length sizes → IsAlike (count_in sizes k) (tree_size count (tree_of nodes k))) where
    of_term : (k : ℕ) → IsTerm nodes k → k < length sizes → IsAlike (count_in sizes k) (term_nodes (term_of nodes k))
    of_term k h lt = each k lt ∙ ap (λ t. counted (tree_size count t)) (term_tree k h)

    pub of_formula : (k : ℕ) → IsFormula nodes k → k < length sizes → IsAlike (count_in sizes k) (nodes_over count (formula_of nodes k))
    of_formula k h lt = each k lt ∙ ap (λ t. counted (tree_size count t)) (formula_tree k h)

    more : (a b : ℕ) → IsAlike a b → IsAlike (1 + a) (1 + b)
    more a b e = alike_sum 1 a 1 b refl e

    two_terms : (s t : ℕ) → IsTerm nodes s → IsTerm nodes t → s < length sizes → t < length sizes
        → IsAlike (1 + (count_in sizes s + count_in sizes t)) (1 + (term_nodes (term_of nodes s) + term_nodes (term_of nodes t)))
    two_terms s t h k l m =
        more (count_in sizes s + count_in sizes t) (term_nodes (term_of nodes s) + term_nodes (term_of nodes t))
        (alike_sum (count_in sizes s) (count_in sizes t) (term_nodes (term_of nodes s)) (term_nodes (term_of nodes t)) (of_term s h l) (of_term t k m))

    two_formulas : (a b : ℕ) → IsFormula nodes a → IsFormula nodes b → a < length sizes → b < length sizes
        → IsAlike (1 + (count_in sizes a + count_in sizes b)) (1 + (nodes_over count (formula_of nodes a) + nodes_over count (formula_of nodes b)))
    two_formulas a b h k l m =
        more (count_in sizes a + count_in sizes b) (nodes_over count (formula_of nodes a) + nodes_over count (formula_of nodes b))
        (alike_sum (count_in sizes a) (count_in sizes b) (nodes_over count (formula_of nodes a)) (nodes_over count (formula_of nodes b)) (of_formula a h l) (of_formula b k m))

    -- the size of a node by those of its parts
    pub node_sized : (n : Node) → IsPlaced nodes n → IsBelow (length sizes) n → IsAlike (node_size count (count_in sizes) n) (tree_size count (tree_from (trees_of nodes) n))
    node_sized (Bound sort depth) h lt = refl
    node_sized (Num n) h lt = refl
    node_sized (Str t) h lt = refl
    node_sized (App f t) h lt = more (count_in sizes t) (term_nodes (term_of nodes t)) (of_term t h lt)
    node_sized Yes h lt = refl
    node_sized No h lt = refl
    node_sized (Eq s t) h lt = two_terms s t h.0 h.1 lt.0 lt.1
    node_sized (Less s t) h lt = two_terms s t h.0 h.1 lt.0 lt.1
    node_sized (Has r s t) h lt = two_terms s t h.0 h.1 lt.0 lt.1
    node_sized (Flag f t) h lt = more (count_in sizes t) (term_nodes (term_of nodes t)) (of_term t h lt)
    node_sized (Present f t) h lt = more (count_in sizes t) (term_nodes (term_of nodes t)) (of_term t h lt)
    node_sized (Not a) h lt = of_formula a h lt
    node_sized (And a b) h lt = two_formulas a b h.0 h.1 lt.0 lt.1
    node_sized (Or a b) h lt = two_formulas a b h.0 h.1 lt.0 lt.1
    node_sized (Exists sort a) h lt = more (count_in sizes a) (nodes_over count (formula_of nodes a)) (of_formula a h lt)
    node_sized (Forall sort a) h lt =
        more (count sort * count_in sizes a) (count sort * nodes_over count (formula_of nodes a))
        (alike_product (count sort) (count_in sizes a) (count sort) (nodes_over count (formula_of nodes a)) refl (of_formula a h lt))

  -- one more size
  pub sizes_more : (count : ℕ → ℕ) (sizes : List ℕ) (size at : ℕ) (n : Node) → length sizes ≡ at → slice_get nodes at ≡ Some n → IsPlaced nodes n → IsBelow at n
      → ((k : ℕ) → k < at → IsAlike (count_in sizes k) (tree_size count (tree_of nodes k))) → IsAlike size (node_size count (count_in sizes) n)
      → (k : ℕ) → k < at + 1 → IsAlike (count_in (sizes ++ size ∷ []) k) (tree_size count (tree_of nodes k))
  sizes_more count sizes size at n e there here below each h =
      let P : ℕ → Type 0 = λ k. IsBelow k n in
      below_more _ _
      (λ k lt. ap counted (get_or_append_left sizes (size ∷ []) 0 k (omega (arith, lt, e))) ∙ each k lt)
      (ap (λ k. counted (count_in (sizes ++ size ∷ []) k)) (sym e)
      ∙ (ap counted (get_or-append_seam sizes size [] 0)
      ∙ (h
      ∙ (node_sized count sizes (λ k lt. each k (omega (arith, lt, e))) n here (subst P (sym e) below) ∙ ap (λ t. counted (tree_size count t)) (sym (tree_of-at nodes at n placed there))))))

-- counts that are alike give sizes that are
pub alike_nodes : (g : Signature) (count count' : ℕ → ℕ) → ((s : ℕ) → s < g.sorts → IsAlike (count s) (count' s)) → (scope : List ℕ) (a : Formula) → IsOver g scope a → IsAlike (nodes_over count a) (nodes_over count' a)
alike_nodes g count count' e scope yes h = refl
alike_nodes g count count' e scope no h = refl
alike_nodes g count count' e scope (equal t u) h = refl
alike_nodes g count count' e scope (less t u) h = refl
alike_nodes g count count' e scope (has r t u) h = refl
alike_nodes g count count' e scope (flag k t) h = refl
alike_nodes g count count' e scope (present k t) h = refl
alike_nodes g count count' e scope (negation a) h = alike_nodes g count count' e scope a h
alike_nodes g count count' e scope (both a b) h =
    alike_sum 1 (nodes_over count a + nodes_over count b) 1 (nodes_over count' a + nodes_over count' b) refl
    (alike_sum (nodes_over count a) (nodes_over count b) (nodes_over count' a) (nodes_over count' b) (alike_nodes g count count' e scope a h.0) (alike_nodes g count count' e scope b h.1))
alike_nodes g count count' e scope (either a b) h =
    alike_sum 1 (nodes_over count a + nodes_over count b) 1 (nodes_over count' a + nodes_over count' b) refl
    (alike_sum (nodes_over count a) (nodes_over count b) (nodes_over count' a) (nodes_over count' b) (alike_nodes g count count' e scope a h.0) (alike_nodes g count count' e scope b h.1))
alike_nodes g count count' e scope (exists sort a) h =
    alike_sum 1 (nodes_over count a) 1 (nodes_over count' a) refl (alike_nodes g count count' e (scope ++ sort ∷ []) a h.1)
alike_nodes g count count' e scope (forall sort a) h =
    alike_sum 1 (count sort * nodes_over count a) 1 (count' sort * nodes_over count' a) refl
    (alike_product (count sort) (nodes_over count a) (count' sort) (nodes_over count' a) (e sort h.0) (alike_nodes g count count' e (scope ++ sort ∷ []) a h.1))
