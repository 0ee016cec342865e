-- Elements for the `exists` that a formula begins with.
use Rattle.std.proofs.Common.{◌≡◌, ◌<◌, ℕ, zero, suc, ◌+◌, Bool, true, false, ◌||◌, arith, refl, sym, ◌∙◌, List, [], ◌∷◌, ◌++◌, ap, subst, append_assoc, append-nil}
use Rattle.form_formula.specs.declared.node.Node.{Node}
use Rattle.form_formula.specs.declared.node.Node.TheVariants as node
use Rattle.std.specs.List.{list_any, range_with_len}
use Rattle.std.proofs.lemmas.List.Folds.{list_any-append}
use Rattle.form_formula.specs.declared.structure.Structure.{Structure}
use Rattle.form_formula.specs.Nodes.{Tree, formula_of, formula_part, tree_from, tree_of, trees_of}
use Rattle.form_formula.specs.Trees.{Formula, yes, no, equal, less, has, flag, present, negation, both, either, exists, forall}
use Rattle.form_formula.specs.Truth.{size_of}
use Rattle.form_terms.specs.Satisfying.{AreElements, body_of, leading_sorts}
use Rattle.decide_smaller.specs.Picks.{IsPickedTo}

-- nothing is picked yet
pub picked_none : (s : Structure) (f : Formula) → IsPickedTo s f [] f
picked_none s f = record { elements = λ later e. e; body = refl }

-- one more element is picked
pub picked_more : (s : Structure) (f a : Formula) (sort element : ℕ) (picks more : List ℕ) → IsPickedTo s f picks (exists sort a) → element < size_of s sort
    → more ≡ picks ++ element ∷ [] → IsPickedTo s f more a
picked_more s f a sort element picks more p there last = record {
  elements = λ later e.
      subst (λ (xs : List ℕ). AreElements s (leading_sorts f) xs) (sym (ap (λ (xs : List ℕ). xs ++ later) last ∙ append_assoc picks (element ∷ []) later))
      (p.elements (element ∷ later) (there, e));
  body = p.body;
}

-- no `exists` leads any more
pub picked_all : (s : Structure) (f rest : Formula) (picks : List ℕ) → IsPickedTo s f picks rest → leading_sorts rest ≡ [] → AreElements s (leading_sorts f) picks × (body_of f ≡ rest)
picked_all s f rest picks p none = (
  subst (λ (xs : List ℕ). AreElements s (leading_sorts f) xs) (append-nil picks)
      (p.elements [] (subst (λ (sorts : List ℕ). AreElements s sorts []) (sym none) tt)),
  p.body ∙ whole rest none,
)
  where
    whole : (f : Formula) → leading_sorts f ≡ [] → body_of f ≡ f
    whole yes h = refl
    whole no h = refl
    whole (equal t u) h = refl
    whole (less t u) h = refl
    whole (has r t u) h = refl
    whole (flag k t) h = refl
    whole (present k t) h = refl
    whole (negation a) h = refl
    whole (both a b) h = refl
    whole (either a b) h = refl
    whole (exists sort a) h = cc
    whole (forall sort a) h = refl

range_more : (n k : ℕ) → range_with_len k (n + 1) ≡ range_with_len k n ++ (k + n) ∷ []
range_more zero k = let e : k ≡ k + 0 = omega arith in ap (λ (m : ℕ). m ∷ []) e
range_more (suc n) k =
    let e : suc n + 1 ≡ suc (n + 1) = omega arith in
    let f : (k + 1) + n ≡ k + suc n = omega arith in
    ap (range_with_len k) e ∙ ap (λ (xs : List ℕ). k ∷ xs) (range_more n (k + 1) ∙ ap (λ (m : ℕ). range_with_len (k + 1) n ++ m ∷ []) f)

-- no element so far passes a test, and the next one does not
pub none_more : (p : ℕ → Bool) (n : ℕ) → list_any p (range_with_len 0 n) ≡ false → p n ≡ false → list_any p (range_with_len 0 (n + 1)) ≡ false
none_more p n before last =
    ap (list_any p) (range_more n 0) ∙ (list_any-append p (range_with_len 0 n) ((0 + n) ∷ []) ∙ joined (list_any p (range_with_len 0 n)) before (p (0 + n)) (ap p first ∙ last))
  where
    first : 0 + n ≡ n
    first = omega arith

    joined : (a : Bool) → a ≡ false → (b : Bool) → b ≡ false → (a || (b || false)) ≡ false
    joined true h b k = h
    joined false h true k = k
    joined false h false k = refl

-- no sort is led by a node that is no `exists`
pub none_leads : (nodes : List Node) (id : ℕ) (n : Node) → tree_of nodes id ≡ tree_from (trees_of nodes) n → ((sort a : ℕ) → n ≡ node.Exists sort a → ⊥) → leading_sorts (formula_of nodes id) ≡ []
none_leads nodes id n means h = ap (λ (t : Tree). leading_sorts (formula_part t)) means ∙ by n h
  where
    by : (n : Node) → ((sort a : ℕ) → n ≡ node.Exists sort a → ⊥) → leading_sorts (formula_part (tree_from (trees_of nodes) n)) ≡ []
    by (node.Bound sort depth) h = refl
    by (node.Num n) h = refl
    by (node.Str t) h = refl
    by (node.App f t) h = refl
    by node.Yes h = refl
    by node.No h = refl
    by (node.Eq s t) h = refl
    by (node.Less s t) h = refl
    by (node.Has r s t) h = refl
    by (node.Flag f t) h = refl
    by (node.Present f t) h = refl
    by (node.Not a) h = refl
    by (node.And a b) h = refl
    by (node.Or a b) h = refl
    by (node.Exists sort a) h = absurd (h sort a refl)
    by (node.Forall sort a) h = refl
