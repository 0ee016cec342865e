-- Terms and functions that are listed once.
use Rattle.std.proofs.Common.{◌≡◌, ℕ, zero, suc, ◌+◌, ◌<◌, ◌≤◌, Bool, true, false, cond, refl, sym, ◌∙◌, List, [], ◌∷◌, ◌++◌, Option, Some, None, length, ap, subst, arith, map}
use Rattle.std.specs.Prelude.{◌==◌, slice_get, is_none, option_and_then}
use Rattle.std.specs.List.{list_any, flat_map, filter, range_with_len}
use Rattle.std.proofs.lemmas.Bool.{eqb-true}
use Rattle.std.proofs.lemmas.Option.{slice_get_within}
use Rattle.form_formula.specs.declared.node.Node.{Node}
use Rattle.form_formula.specs.declared.structure.FunSig.{FunSig}
use Rattle.form_formula.specs.declared.structure.Signature.{Signature}
use Rattle.form_formula.specs.Trees.{Term, bound, num, str, app}
use Rattle.form_formula.specs.Nodes as formula
use Rattle.form_terms.specs.GroundTerms.{GroundTerm, constant, record_sort, target_of}
use Rattle.form_terms.specs.Listing.{unique, is_same_term}
use Rattle.form_terms.proofs.Kept.{nat_same}
use Rattle.form_terms.proofs.Listed.{same_term, same_itself}
use Rattle.ground_terms.specs.declared.node.TermNode.{TermNode}
use Rattle.ground_terms.specs.declared.node.TermNode.TheVariants.{Constant, Skolem, Field, Empty, Cons}
use Rattle.ground_terms.specs.Nodes.{term_part, list_part, tree_of, tree_from, trees_of, term_of, list_of, is_one, kind_at, IsOne, IsList, ArePlaced, AreOnce}
use Rattle.ground_terms.proofs.Placement.{kind_within, parts_below, parts_placed}
use Rattle.ground_terms.proofs.TreeLemmas.{tree_of-at}
use Rattle.ground_terms.specs.declared.part.Part.{Part}
use Rattle.ground_terms.specs.declared.part.Part.TheVariants as part
use Rattle.ground_terms.specs.Codes.{element_functions, code_functions}
use Rattle.ground_terms.specs.Keeping.{AreBelow}
use Rattle.ground_terms.specs.Standing.{terms_at, AreOnes, AreTermsAt, AreListed}
use Rattle.ground_terms.proofs.Standing.{map-append, filter-append, terms_append, terms_at_kept, extends_both, listed_more}

-- the node of a number
node_at : (nodes : List TermNode) (i : ℕ) (b : Bool) → kind_at nodes i ≡ Some b → (node : TermNode) × (slice_get nodes i ≡ Some node) × (is_one node ≡ b)
node_at [] i b e = cc
node_at (n ∷ nodes) zero b e = (n, refl, (cc))
node_at (n ∷ nodes) (suc i) b e = node_at nodes i b e

module _ (nodes : List TermNode) (placed : ArePlaced nodes) (once : AreOnce nodes) where
  means : (i : ℕ) (n : TermNode) → slice_get nodes i ≡ Some n → tree_of nodes i ≡ tree_from (trees_of nodes) n
  means i n e = tree_of-at nodes i n placed e

  abbrev SameBelow : ℕ → Type 0
  SameBelow fuel =
      ((i j : ℕ) → i < fuel → IsOne nodes i → IsOne nodes j → term_of nodes i ≡ term_of nodes j → i ≡ j)
      × ((i j : ℕ) → i < fuel → IsList nodes i → IsList nodes j → list_of nodes i ≡ list_of nodes j → i ≡ j)

  by_nodes : (fuel : ℕ) → SameBelow fuel → (i j : ℕ) → i ≤ fuel → (m n : TermNode) → slice_get nodes i ≡ Some m → slice_get nodes j ≡ Some n → is_one m ≡ true → is_one n ≡ true
      → term_part (tree_from (trees_of nodes) m) ≡ term_part (tree_from (trees_of nodes) n) → i ≡ j
  by_nodes fuel ih i j le (Constant a) (Constant b) p q kind other e =
      let same : a ≡ b = cc in
      let P : ℕ → Type 0 = λ b. slice_get nodes j ≡ Some (Constant b) in once i j (Constant a) p (subst P (sym same) q)
  by_nodes fuel ih i j le (Constant a) (Skolem n s ts) p q kind other e = cc
  by_nodes fuel ih i j le (Constant a) (Field h t) p q kind other e = cc
  by_nodes fuel ih i j le (Skolem n s ts) (Constant a) p q kind other e = cc
  by_nodes fuel ih i j le (Skolem n s ts) (Skolem n' s' ts') p q kind other e =
      let below : ts < i = parts_below nodes i (Skolem n s ts) placed p in
      let first : IsList nodes ts = parts_placed nodes i (Skolem n s ts) placed p in
      let second : IsList nodes ts' = parts_placed nodes j (Skolem n' s' ts') placed q in
      let lists : list_of nodes ts ≡ list_of nodes ts' = cc in
      let same : ts ≡ ts' = ih.1 ts ts' (omega arith) first second lists in
      let a : n ≡ n' = cc in
      let b : s ≡ s' = cc in
      let node : Skolem n s ts ≡ Skolem n' s' ts' = cc in
      let P : TermNode → Type 0 = λ m. slice_get nodes j ≡ Some m in once i j (Skolem n s ts) p (subst P (sym node) q)
  by_nodes fuel ih i j le (Skolem n s ts) (Field h t) p q kind other e = cc
  by_nodes fuel ih i j le (Field h t) (Constant a) p q kind other e = cc
  by_nodes fuel ih i j le (Field h t) (Skolem n s ts) p q kind other e = cc
  by_nodes fuel ih i j le (Field h t) (Field h' t') p q kind other e =
      let below : t < i = parts_below nodes i (Field h t) placed p in
      let first : IsOne nodes t = parts_placed nodes i (Field h t) placed p in
      let second : IsOne nodes t' = parts_placed nodes j (Field h' t') placed q in
      let terms : term_of nodes t ≡ term_of nodes t' = cc in
      let same : t ≡ t' = ih.0 t t' (omega arith) first second terms in
      let a : h ≡ h' = cc in
      let node : Field h t ≡ Field h' t' = cc in
      let P : TermNode → Type 0 = λ m. slice_get nodes j ≡ Some m in once i j (Field h t) p (subst P (sym node) q)
  by_nodes fuel ih i j le Empty n p q kind other e = cc
  by_nodes fuel ih i j le (Cons t ts) n p q kind other e = cc
  by_nodes fuel ih i j le (Constant a) Empty p q kind other e = cc
  by_nodes fuel ih i j le (Constant a) (Cons t ts) p q kind other e = cc
  by_nodes fuel ih i j le (Skolem n s us) Empty p q kind other e = cc
  by_nodes fuel ih i j le (Skolem n s us) (Cons t ts) p q kind other e = cc
  by_nodes fuel ih i j le (Field h u) Empty p q kind other e = cc
  by_nodes fuel ih i j le (Field h u) (Cons t ts) p q kind other e = cc

  by_lists : (fuel : ℕ) → SameBelow fuel → (i j : ℕ) → i ≤ fuel → (m n : TermNode) → slice_get nodes i ≡ Some m → slice_get nodes j ≡ Some n → is_one m ≡ false → is_one n ≡ false
      → list_part (tree_from (trees_of nodes) m) ≡ list_part (tree_from (trees_of nodes) n) → i ≡ j
  by_lists fuel ih i j le Empty Empty p q kind other e = once i j Empty p q
  by_lists fuel ih i j le Empty (Cons t ts) p q kind other e = cc
  by_lists fuel ih i j le (Cons t ts) Empty p q kind other e = cc
  by_lists fuel ih i j le (Cons t ts) (Cons t' ts') p q kind other e =
      let below = parts_below nodes i (Cons t ts) placed p in
      let first = parts_placed nodes i (Cons t ts) placed p in
      let second = parts_placed nodes j (Cons t' ts') placed q in
      let terms : term_of nodes t ≡ term_of nodes t' = cc in
      let lists : list_of nodes ts ≡ list_of nodes ts' = cc in
      let same : t ≡ t' = ih.0 t t' (omega (arith, below.0)) first.0 second.0 terms in
      let same' : ts ≡ ts' = ih.1 ts ts' (omega (arith, below.1)) first.1 second.1 lists in
      let node : Cons t ts ≡ Cons t' ts' = cc in
      let P : TermNode → Type 0 = λ m. slice_get nodes j ≡ Some m in once i j (Cons t ts) p (subst P (sym node) q)
  by_lists fuel ih i j le (Constant a) n p q kind other e = cc
  by_lists fuel ih i j le (Skolem a b d) n p q kind other e = cc
  by_lists fuel ih i j le (Field a b) n p q kind other e = cc
  by_lists fuel ih i j le Empty (Constant a) p q kind other e = cc
  by_lists fuel ih i j le Empty (Skolem a b d) p q kind other e = cc
  by_lists fuel ih i j le Empty (Field a b) p q kind other e = cc
  by_lists fuel ih i j le (Cons t ts) (Constant a) p q kind other e = cc
  by_lists fuel ih i j le (Cons t ts) (Skolem a b d) p q kind other e = cc
  by_lists fuel ih i j le (Cons t ts) (Field a b) p q kind other e = cc

  same_below : (fuel : ℕ) → SameBelow fuel
  same_below zero = ((λ i j lt p q e. absurd (omega (arith, lt))), (λ i j lt p q e. absurd (omega (arith, lt))))
  same_below (suc fuel) =
      let ih = same_below fuel in (
        (λ i j lt p q e.
            let a = node_at nodes i true p in
            let b = node_at nodes j true q in
            by_nodes fuel ih i j (omega (arith, lt)) a.0 b.0 a.1 b.1 a.2 b.2 (sym (ap term_part (means i a.0 a.1)) ∙ (e ∙ ap term_part (means j b.0 b.1)))),
        (λ i j lt p q e.
            let a = node_at nodes i false p in
            let b = node_at nodes j false q in
            by_lists fuel ih i j (omega (arith, lt)) a.0 b.0 a.1 b.1 a.2 b.2 (sym (ap list_part (means i a.0 a.1)) ∙ (e ∙ ap list_part (means j b.0 b.1)))),
      )

  bool_same : (a b : Bool) → (a ≡ true → b ≡ true) → (b ≡ true → a ≡ true) → a ≡ b
  bool_same true b p q = sym (p refl)
  bool_same false true p q = q refl
  bool_same false false p q = refl

  -- numbers are the same where their terms are
  pub one_number : (i j : ℕ) → IsOne nodes i → IsOne nodes j → (i == j) ≡ is_same_term (term_of nodes i) (term_of nodes j)
  one_number i j p q =
      bool_same (i == j) (is_same_term (term_of nodes i) (term_of nodes j))
      (λ e. let P : ℕ → Type 0 = λ j. is_same_term (term_of nodes i) (term_of nodes j) ≡ true in subst P (eqb-true i j e) (same_itself (term_of nodes i)))
      (λ e. let same : i ≡ j = (same_below (suc i)).0 i j (omega arith) p q (same_term (term_of nodes i) (term_of nodes j) e) in ap (λ k. i == k) (sym same) ∙ nat_same i)

  any_same : (id : ℕ) (ids : List ℕ) → IsOne nodes id → AreOnes nodes ids → list_any (λ k. id == k) ids ≡ list_any (is_same_term (term_of nodes id)) (terms_at nodes ids)
  any_same id [] p q = refl
  any_same id (k ∷ ids) p q = let a = one_number id k p q.0 in let b = any_same id ids p q.1 in cc

  pub unique_terms : (ids : List ℕ) → AreOnes nodes ids → AreTermsAt nodes (unique (λ x y. x == y) ids) (unique is_same_term (terms_at nodes ids))
  unique_terms [] h = record { ones = tt; are = refl }
  unique_terms (id ∷ ids) h = choose (list_any (λ k. id == k) ids) (list_any (is_same_term (term_of nodes id)) (terms_at nodes ids)) (any_same id ids h.0 h.1) (unique_terms ids h.1)
    where
      choose : (a b : Bool) → a ≡ b → AreTermsAt nodes (unique (λ x y. x == y) ids) (unique is_same_term (terms_at nodes ids))
          → AreTermsAt nodes (cond a (unique (λ x y. x == y) ids) (id ∷ unique (λ x y. x == y) ids)) (cond b (unique is_same_term (terms_at nodes ids)) (term_of nodes id ∷ unique is_same_term (terms_at nodes ids)))
      choose true true e h' = h'
      choose true false e h' = cc
      choose false true e h' = cc
      choose false false e h' = record { ones = (h.0, h'.ones); are = ap (λ ts. term_of nodes id ∷ ts) h'.are }

pub ones_below : (nodes : List TermNode) (ids : List ℕ) → AreOnes nodes ids → AreBelow (length nodes) ids
ones_below nodes [] h = tt
ones_below nodes (id ∷ ids) h = (kind_within nodes id true h.0, ones_below nodes ids h.1)

-- the functions of a formula are there
below_append : (n : ℕ) (xs ys : List ℕ) → AreBelow n xs → AreBelow n ys → AreBelow n (xs ++ ys)
below_append n [] ys p q = q
below_append n (x ∷ xs) ys p q = (p.0, below_append n xs ys p.1 q)

module _ (g : Signature) (nodes : List Node) where
  one_below : (f : ℕ) (o : Option FunSig) → slice_get g.funs f ≡ o → AreBelow (length g.funs) (cond (is_none (option_and_then (λ sig. record_sort sig.to) o)) [] (f ∷ []))
  one_below f None e = tt
  one_below f (Some sig) e = choose (is_none (record_sort sig.to))
    where
      choose : (b : Bool) → AreBelow (length g.funs) (cond b [] (f ∷ []))
      choose true = tt
      choose false = (omega (arith, slice_get_within g.funs f sig e), tt)

  element_below : (t : Term) → AreBelow (length g.funs) (element_functions g t)
  element_below (bound sort depth) = tt
  element_below (num n) = tt
  element_below (str t) = tt
  element_below (app f t) = below_append (length g.funs) (cond (is_none (target_of g f)) [] (f ∷ [])) (element_functions g t) (one_below f (slice_get g.funs f) refl) (element_below t)

  code_below : (c : Part) → AreBelow (length g.funs) (code_functions g nodes c)
  code_below (part.Existential w) = tt
  code_below (part.Universal s) = tt
  code_below (part.Named id n) = tt
  code_below (part.Dependent id) = element_below (formula.term_of nodes id)
  code_below (part.Literal id) = tt

  pub functions_below : (cs : List Part) → AreBelow (length g.funs) (flat_map (code_functions g nodes) cs)
  functions_below [] = tt
  functions_below (c ∷ cs) = below_append (length g.funs) (code_functions g nodes c) (flat_map (code_functions g nodes) cs) (code_below c) (functions_below cs)

-- one more sort
range_next : (a n : ℕ) → range_with_len a (n + 1) ≡ range_with_len a n ++ (a + n) ∷ []
range_next a n = ap (λ k. range_with_len a k) (one_more n) ∙ by a n
  where
    one_more : (n : ℕ) → n + 1 ≡ suc n
    one_more n = omega arith

    by : (a n : ℕ) → range_with_len a (suc n) ≡ range_with_len a n ++ (a + n) ∷ []
    by a zero = let e : a ≡ a + 0 = omega arith in ap (λ k. k ∷ []) e
    by a (suc n) = let e : (a + 1) + n ≡ a + suc n = omega arith in ap (λ xs. a ∷ xs) (by (a + 1) n ∙ ap (λ k. range_with_len (a + 1) n ++ k ∷ []) e)

pub constant_listed : (p : ℕ → Bool) (i : ℕ) (a b d : List TermNode) (x y z : List ℕ) → AreListed (map constant (filter p (range_with_len 0 i))) a b x y → AreListed (map constant (filter p (i ∷ []))) b d y z
    → AreListed (map constant (filter p (range_with_len 0 (i + 1)))) a d x z
constant_listed p i a b d x y z h k =
    let zero_plus : 0 + i ≡ i = omega arith in
    let more : map constant (filter p (range_with_len 0 (i + 1))) ≡ map constant (filter p (range_with_len 0 i)) ++ map constant (filter p (i ∷ [])) =
    ap (λ xs. map constant (filter p xs)) (range_next 0 i ∙ ap (λ k. range_with_len 0 i ++ k ∷ []) zero_plus)
    ∙ (ap (λ xs. map constant xs) (filter-append p (range_with_len 0 i) (i ∷ [])) ∙ map-append constant (filter p (range_with_len 0 i)) (filter p (i ∷ []))) in
    listed_more (map constant (filter p (range_with_len 0 i))) (map constant (filter p (i ∷ []))) (map constant (filter p (range_with_len 0 (i + 1)))) a b d x y z h k more

-- all first terms
pub firsts_listed : (N T C : List GroundTerm) (t0 t1 t2 t3 : List TermNode) (f0 f1 f2 rest k0 k1 first : List ℕ) → ArePlaced t2 → AreOnce t2 → f0 ≡ [] → AreListed N t0 t1 f0 f1 → AreListed T t1 t2 f1 f2
    → rest ≡ unique (λ x y. x == y) f2 → k0 ≡ [] → AreListed C t2 t3 k0 k1 → first ≡ k1 ++ rest → AreListed (C ++ unique is_same_term (N ++ T)) t0 t3 [] first
firsts_listed N T C t0 t1 t2 t3 f0 f1 f2 rest k0 k1 first placed once e h k u z c w =
    let both : AreListed (N ++ T) t0 t2 f0 f2 = listed_more N T (N ++ T) t0 t1 t2 f0 f1 f2 h k refl in
    let all : f2 ≡ both.ids = both.whole ∙ ap (λ xs. xs ++ both.ids) e in
    let ones : AreOnes t2 f2 = let P : List ℕ → Type 0 = λ ids. AreOnes t2 ids in subst P (sym all) both.stand.ones in
    let are : terms_at t2 f2 ≡ N ++ T = ap (λ ids. terms_at t2 ids) all ∙ both.stand.are in
    let P : List GroundTerm → Type 0 = λ ts. AreTermsAt t2 rest (unique is_same_term ts) in
    let Q : List ℕ → Type 0 = λ ids. AreTermsAt t2 ids (unique is_same_term (terms_at t2 f2)) in
    let rests : AreTermsAt t2 rest (unique is_same_term (N ++ T)) = subst P are (subst Q (sym u) (unique_terms t2 placed once f2 ones)) in
    record {
      kept = extends_both t0 t2 t3 both.kept c.kept;
      ids = c.ids ++ rest;
      stand = terms_append t3 c.ids rest C (unique is_same_term (N ++ T)) c.stand (terms_at_kept t2 t3 rest (unique is_same_term (N ++ T)) c.kept rests);
      whole = w ∙ ap (λ xs. xs ++ rest) (c.whole ∙ ap (λ xs. xs ++ c.ids) z);
    }

-- what was found in an empty list
pub found_ones : (N T : List GroundTerm) (a b d : List TermNode) (p q r : List ℕ) → p ≡ [] → AreListed N a b p q → AreListed T b d q r → AreOnes d r
found_ones N T a b d p q r e h k =
    let both : AreListed (N ++ T) a d p r = listed_more N T (N ++ T) a b d p q r h k refl in
    let P : List ℕ → Type 0 = λ ids. AreOnes d ids in subst P (sym (both.whole ∙ ap (λ xs. xs ++ both.ids) e)) both.stand.ones
