-- Numbers of ground terms among more nodes.
use Rattle.std.proofs.Common.{◌≡◌, ℕ, suc, zero, ◌+◌, ◌<◌, Bool, true, false, refl, sym, ◌∙◌, List, [], ◌∷◌, ◌++◌, Some, length, get_or, take, ap, subst, arith, append_assoc, append-nil, map, cond}
use Rattle.std.specs.Prelude.{reverse, slice_get}
use Rattle.std.proofs.lemmas.List.{reverse-append}
use Rattle.std.specs.List.{flat_map, filter}
use Rattle.form_terms.specs.GroundTerms.{GroundTerm, GroundTerms, term_and}
use Rattle.ground_terms.specs.declared.node.TermNode.{TermNode}
use Rattle.ground_terms.specs.Nodes.{IsOne, IsList, term_of, list_of, term_part, list_part, tree_of, tree_from, trees_of, is_one, kind_at, Extends, IsAdded}
use Rattle.ground_terms.proofs.Placement.{kind_front, kind_within}
use Rattle.ground_terms.proofs.TreeLemmas.{tree_of-front}
use Rattle.ground_terms.specs.Standing.{terms_at, lists_at, AreOnes, AreLists, AreTermsAt, AreListsAt, AreListed, AreListsListed}

pub extends_none : (xs : List TermNode) → Extends xs xs
extends_none xs = record { more = []; whole = sym (append-nil xs) }

pub extends_both : (xs ys zs : List TermNode) → Extends xs ys → Extends ys zs → Extends xs zs
extends_both xs ys zs p q =
    record { more = p.more ++ q.more; whole = q.whole ∙ (ap (λ ys. ys ++ q.more) p.whole ∙ append_assoc xs p.more q.more) }

pub one_kept : (xs ys : List TermNode) (id : ℕ) → Extends xs ys → IsOne xs id → IsOne ys id
one_kept xs ys id e h = ap (λ ns. kind_at ns id) e.whole ∙ kind_front xs e.more id true h

pub list_kept : (xs ys : List TermNode) (id : ℕ) → Extends xs ys → IsList xs id → IsList ys id
list_kept xs ys id e h = ap (λ ns. kind_at ns id) e.whole ∙ kind_front xs e.more id false h

pub term_kept : (xs ys : List TermNode) (id : ℕ) → Extends xs ys → IsOne xs id → term_of ys id ≡ term_of xs id
term_kept xs ys id e h = ap term_part (ap (λ ns. tree_of ns id) e.whole ∙ tree_of-front xs e.more id (kind_within xs id true h))

pub list_term_kept : (xs ys : List TermNode) (id : ℕ) → Extends xs ys → IsList xs id → list_of ys id ≡ list_of xs id
list_term_kept xs ys id e h = ap list_part (ap (λ ns. tree_of ns id) e.whole ∙ tree_of-front xs e.more id (kind_within xs id false h))

pub ones_kept : (xs ys : List TermNode) (ids : List ℕ) → Extends xs ys → AreOnes xs ids → AreOnes ys ids
ones_kept xs ys [] e h = tt
ones_kept xs ys (id ∷ ids) e h = (one_kept xs ys id e h.0, ones_kept xs ys ids e h.1)

pub terms_kept : (xs ys : List TermNode) (ids : List ℕ) → Extends xs ys → AreOnes xs ids → terms_at ys ids ≡ terms_at xs ids
terms_kept xs ys [] e h = refl
terms_kept xs ys (id ∷ ids) e h = let a = term_kept xs ys id e h.0 in let b = terms_kept xs ys ids e h.1 in cc

pub lists_kept : (xs ys : List TermNode) (ids : List ℕ) → Extends xs ys → AreLists xs ids → AreLists ys ids
lists_kept xs ys [] e h = tt
lists_kept xs ys (id ∷ ids) e h = (list_kept xs ys id e h.0, lists_kept xs ys ids e h.1)

pub list_terms_kept : (xs ys : List TermNode) (ids : List ℕ) → Extends xs ys → AreLists xs ids → lists_at ys ids ≡ lists_at xs ids
list_terms_kept xs ys [] e h = refl
list_terms_kept xs ys (id ∷ ids) e h = let a = list_term_kept xs ys id e h.0 in let b = list_terms_kept xs ys ids e h.1 in cc

pub terms_at_kept : (xs ys : List TermNode) (ids : List ℕ) (ts : List GroundTerm) → Extends xs ys → AreTermsAt xs ids ts → AreTermsAt ys ids ts
terms_at_kept xs ys ids ts e h = record { ones = ones_kept xs ys ids e h.ones; are = terms_kept xs ys ids e h.ones ∙ h.are }

pub lists_at_kept : (xs ys : List TermNode) (ids : List ℕ) (ts : List GroundTerms) → Extends xs ys → AreListsAt xs ids ts → AreListsAt ys ids ts
lists_at_kept xs ys ids ts e h = record { all_lists = lists_kept xs ys ids e h.all_lists; are = list_terms_kept xs ys ids e h.all_lists ∙ h.are }

pub map-append : {A B : Type 0} (h : A → B) (xs ys : List A) → map h (xs ++ ys) ≡ map h xs ++ map h ys
map-append h [] ys = refl
map-append h (x ∷ xs) ys = ap (λ zs. h x ∷ zs) (map-append h xs ys)

module _ (nodes : List TermNode) where
  ones_append : (xs ys : List ℕ) → AreOnes nodes xs → AreOnes nodes ys → AreOnes nodes (xs ++ ys)
  ones_append [] ys p q = q
  ones_append (x ∷ xs) ys p q = (p.0, ones_append xs ys p.1 q)

  lists_append : (xs ys : List ℕ) → AreLists nodes xs → AreLists nodes ys → AreLists nodes (xs ++ ys)
  lists_append [] ys p q = q
  lists_append (x ∷ xs) ys p q = (p.0, lists_append xs ys p.1 q)

  pub terms_append : (xs ys : List ℕ) (ts us : List GroundTerm) → AreTermsAt nodes xs ts → AreTermsAt nodes ys us → AreTermsAt nodes (xs ++ ys) (ts ++ us)
  terms_append xs ys ts us p q =
      record { ones = ones_append xs ys p.ones q.ones; are = map-append (term_of nodes) xs ys ∙ (ap (λ zs. zs ++ terms_at nodes ys) p.are ∙ ap (λ zs. ts ++ zs) q.are) }

  pub lists_at_append : (xs ys : List ℕ) (ts us : List GroundTerms) → AreListsAt nodes xs ts → AreListsAt nodes ys us → AreListsAt nodes (xs ++ ys) (ts ++ us)
  lists_at_append xs ys ts us p q =
      record { all_lists = lists_append xs ys p.all_lists q.all_lists; are = map-append (list_of nodes) xs ys ∙ (ap (λ zs. zs ++ lists_at nodes ys) p.are ∙ ap (λ zs. ts ++ zs) q.are) }

  -- one of them
  pub one_at : (ids : List ℕ) (k d : ℕ) → AreOnes nodes ids → k < length ids → IsOne nodes (get_or ids k d)
  one_at [] k d h lt = absurd (omega arith)
  one_at (id ∷ ids) zero d h lt = h.0
  one_at (id ∷ ids) (suc k) d h lt = one_at ids k d h.1 (omega arith)

  pub list_at : (ids : List ℕ) (k d : ℕ) → AreLists nodes ids → k < length ids → IsList nodes (get_or ids k d)
  list_at [] k d h lt = absurd (omega arith)
  list_at (id ∷ ids) zero d h lt = h.0
  list_at (id ∷ ids) (suc k) d h lt = list_at ids k d h.1 (omega arith)

-- nothing was listed
pub nothing_listed : (nodes : List TermNode) (ids : List ℕ) → AreListed [] nodes nodes ids ids
nothing_listed nodes ids = record { kept = extends_none nodes; ids = []; stand = record { ones = tt; are = refl }; whole = sym (append-nil ids) }

pub no_list_listed : (nodes : List TermNode) (ids : List ℕ) → AreListsListed [] nodes nodes ids ids
no_list_listed nodes ids = record { kept = extends_none nodes; ids = []; stand = record { all_lists = tt; are = refl }; whole = sym (append-nil ids) }

-- first these and then those
pub listed_more : (ts us vs : List GroundTerm) (a b d : List TermNode) (p q r : List ℕ) → AreListed ts a b p q → AreListed us b d q r → vs ≡ ts ++ us → AreListed vs a d p r
listed_more ts us vs a b d p q r x y e =
    let P : List GroundTerm → Type 0 = λ vs. AreListed vs a d p r in
    subst P (sym e)
    (record {
      kept = extends_both a b d x.kept y.kept;
      ids = x.ids ++ y.ids;
      stand = terms_append d x.ids y.ids ts us (terms_at_kept b d x.ids ts y.kept x.stand) y.stand;
      whole = y.whole ∙ (ap (λ q. q ++ y.ids) x.whole ∙ append_assoc p x.ids y.ids);
    })

pub lists_more : (ts us vs : List GroundTerms) (a b d : List TermNode) (p q r : List ℕ) → AreListsListed ts a b p q → AreListsListed us b d q r → vs ≡ ts ++ us → AreListsListed vs a d p r
lists_more ts us vs a b d p q r x y e =
    let P : List GroundTerms → Type 0 = λ vs. AreListsListed vs a d p r in
    subst P (sym e)
    (record {
      kept = extends_both a b d x.kept y.kept;
      ids = x.ids ++ y.ids;
      stand = lists_at_append d x.ids y.ids ts us (lists_at_kept b d x.ids ts y.kept x.stand) y.stand;
      whole = y.whole ∙ (ap (λ q. q ++ y.ids) x.whole ∙ append_assoc p x.ids y.ids);
    })

-- a node that was added
pub one_listed : (old new : List TermNode) (node : TermNode) (id : ℕ) (before after : List ℕ) (t : GroundTerm) → IsAdded old node new id → is_one node ≡ true → term_part (tree_from (trees_of old) node) ≡ t
    → after ≡ before ++ id ∷ [] → AreListed (t ∷ []) old new before after
one_listed old new node id before after t h one e w =
    record {
      kept = h.kept;
      ids = id ∷ [];
      stand = record { ones = (h.kind ∙ ap (λ b. Some b) one, tt); are = ap (λ t. t ∷ []) (ap term_part h.means ∙ e) };
      whole = w;
    }

pub one_list_listed : (old new : List TermNode) (node : TermNode) (id : ℕ) (before after : List ℕ) (t : GroundTerms) → IsAdded old node new id → is_one node ≡ false → list_part (tree_from (trees_of old) node) ≡ t
    → after ≡ before ++ id ∷ [] → AreListsListed (t ∷ []) old new before after
one_list_listed old new node id before after t h one e w =
    record {
      kept = h.kept;
      ids = id ∷ [];
      stand = record { all_lists = (h.kind ∙ ap (λ b. Some b) one, tt); are = ap (λ t. t ∷ []) (ap list_part h.means ∙ e) };
      whole = w;
    }

-- one more element of a list that is gone through
pub map_next : {A B : Type 0} (h : A → B) (xs : List A) (k : ℕ) (d : A) → k < length xs → map h (take (k + 1) xs) ≡ map h (take k xs) ++ h (get_or xs k d) ∷ []
map_next {A} {B} h xs k d lt = ap (λ n. map h (take n xs)) (add_one_ k) ∙ by xs k lt
  where
    add_one_ : (k : ℕ) → k + 1 ≡ suc k
    add_one_ k = omega arith

    by : (xs : List A) (k : ℕ) → k < length xs → map h (take (suc k) xs) ≡ map h (take k xs) ++ h (get_or xs k d) ∷ []
    by [] k lt = absurd (omega arith)
    by (x ∷ xs) zero lt = refl
    by (x ∷ xs) (suc k) lt = ap (λ ys. h x ∷ ys) (by xs k (omega arith))

pub flat_next : {A B : Type 0} (h : A → List B) (xs : List A) (k : ℕ) (d : A) → k < length xs → flat_map h (take (k + 1) xs) ≡ flat_map h (take k xs) ++ h (get_or xs k d)
flat_next {A} {B} h xs k d lt = ap (λ n. flat_map h (take n xs)) (add_one_ k) ∙ by xs k lt
  where
    add_one_ : (k : ℕ) → k + 1 ≡ suc k
    add_one_ k = omega arith

    by : (xs : List A) (k : ℕ) → k < length xs → flat_map h (take (suc k) xs) ≡ flat_map h (take k xs) ++ h (get_or xs k d)
    by [] k lt = absurd (omega arith)
    by (x ∷ xs) zero lt = append-nil (h x)
    by (x ∷ xs) (suc k) lt = ap (λ ys. h x ++ ys) (by xs k (omega arith)) ∙ sym (append_assoc (h x) (flat_map h (take k xs)) (h (get_or xs k d)))

pub map_map_next : {A B D : Type 0} (h : B → D) (k : A → B) (xs : List A) (i : ℕ) (d : A) → i < length xs → map h (map k (take (i + 1) xs)) ≡ map h (map k (take i xs)) ++ h (k (get_or xs i d)) ∷ []
map_map_next h k xs i d lt = ap (λ ys. map h ys) (map_next k xs i d lt) ∙ map-append h (map k (take i xs)) (k (get_or xs i d) ∷ [])

-- one more term that is made of one of some terms
pub term_listed : (h : GroundTerm → GroundTerm) (ids : List ℕ) (i : ℕ) (a b d : List TermNode) (p q r : List ℕ) → AreOnes a ids → i < length ids
    → AreListed (map h (terms_at a (take i ids))) a b p q → AreListed (h (term_of b (get_or ids i 0)) ∷ []) b d q r → AreListed (map h (terms_at a (take (i + 1) ids))) a d p r
term_listed h ids i a b d p q r ones lt x y =
    let P : GroundTerm → Type 0 = λ t. AreListed (h t ∷ []) b d q r in
    listed_more (map h (terms_at a (take i ids))) (h (term_of a (get_or ids i 0)) ∷ []) (map h (terms_at a (take (i + 1) ids))) a b d p q r x
    (subst P (term_kept a b (get_or ids i 0) x.kept (one_at a ids i 0 ones lt)) y) (map_map_next h (term_of a) ids i 0 lt)

-- or of one of some lists
pub list_listed : (h : GroundTerms → GroundTerm) (ids : List ℕ) (i : ℕ) (a b d : List TermNode) (p q r : List ℕ) → AreLists a ids → i < length ids
    → AreListed (map h (lists_at a (take i ids))) a b p q → AreListed (h (list_of b (get_or ids i 0)) ∷ []) b d q r → AreListed (map h (lists_at a (take (i + 1) ids))) a d p r
list_listed h ids i a b d p q r all lt x y =
    let P : GroundTerms → Type 0 = λ t. AreListed (h t ∷ []) b d q r in
    listed_more (map h (lists_at a (take i ids))) (h (list_of a (get_or ids i 0)) ∷ []) (map h (lists_at a (take (i + 1) ids))) a b d p q r x
    (subst P (list_term_kept a b (get_or ids i 0) x.kept (list_at a ids i 0 all lt)) y) (map_map_next h (list_of a) ids i 0 lt)

-- or one more list
pub longer_listed : (first : ℕ) (ids : List ℕ) (i : ℕ) (a b d : List TermNode) (p q r : List ℕ) → IsOne a first → AreLists a ids → i < length ids
    → AreListsListed (map (term_and (term_of a first)) (lists_at a (take i ids))) a b p q
    → AreListsListed (term_and (term_of b first) (list_of b (get_or ids i 0)) ∷ []) b d q r
    → AreListsListed (map (term_and (term_of a first)) (lists_at a (take (i + 1) ids))) a d p r
longer_listed first ids i a b d p q r one all lt x y =
    let P : GroundTerms → Type 0 = λ t. AreListsListed (t ∷ []) b d q r in
    let same : term_and (term_of b first) (list_of b (get_or ids i 0)) ≡ term_and (term_of a first) (list_of a (get_or ids i 0)) =
    let s = term_kept a b first x.kept one in let t = list_term_kept a b (get_or ids i 0) x.kept (list_at a ids i 0 all lt) in cc in
    lists_more (map (term_and (term_of a first)) (lists_at a (take i ids))) (term_and (term_of a first) (list_of a (get_or ids i 0)) ∷ [])
    (map (term_and (term_of a first)) (lists_at a (take (i + 1) ids))) a b d p q r x
    (subst P same y) (map_map_next (term_and (term_of a first)) (list_of a) ids i 0 lt)

-- one more element that may pass a test
pub filter-append : {A : Type 0} (p : A → Bool) (xs ys : List A) → filter p (xs ++ ys) ≡ filter p xs ++ filter p ys
filter-append p [] ys = refl
filter-append {A} p (x ∷ xs) ys = choose (p x) (filter-append p xs ys)
  where
    choose : (b : Bool) → filter p (xs ++ ys) ≡ filter p xs ++ filter p ys → cond b (x ∷ filter p (xs ++ ys)) (filter p (xs ++ ys)) ≡ cond b (x ∷ filter p xs) (filter p xs) ++ filter p ys
    choose true e = ap (λ zs. x ∷ zs) e
    choose false e = e

module _ (nodes : List TermNode) (p : GroundTerm → Bool) (ids : List ℕ) (i : ℕ) where
  filter_next : i < length ids → filter p (terms_at nodes (take (i + 1) ids)) ≡ filter p (terms_at nodes (take i ids)) ++ filter p (term_of nodes (get_or ids i 0) ∷ [])
  filter_next lt = ap (λ ts. filter p ts) (map_next (term_of nodes) ids i 0 lt) ∙ filter-append p (terms_at nodes (take i ids)) (term_of nodes (get_or ids i 0) ∷ [])

  pub passes_next : (found : List ℕ) → AreOnes nodes ids → i < length ids → p (term_of nodes (get_or ids i 0)) ≡ true
      → AreTermsAt nodes found (filter p (terms_at nodes (take i ids))) → AreTermsAt nodes (found ++ get_or ids i 0 ∷ []) (filter p (terms_at nodes (take (i + 1) ids)))
  passes_next found ones lt e h =
      let t : GroundTerm = term_of nodes (get_or ids i 0) in
      let P : List GroundTerm → Type 0 = λ ts. AreTermsAt nodes (found ++ get_or ids i 0 ∷ []) ts in
      subst P (sym (filter_next lt ∙ ap (λ b. filter p (terms_at nodes (take i ids)) ++ cond b (t ∷ []) []) e))
      (terms_append nodes found (get_or ids i 0 ∷ []) (filter p (terms_at nodes (take i ids))) (t ∷ []) h (record { ones = (one_at nodes ids i 0 ones lt, tt); are = refl }))

  pub fails_next : (found : List ℕ) → i < length ids → p (term_of nodes (get_or ids i 0)) ≡ false
      → AreTermsAt nodes found (filter p (terms_at nodes (take i ids))) → AreTermsAt nodes found (filter p (terms_at nodes (take (i + 1) ids)))
  fails_next found lt e h =
      let t : GroundTerm = term_of nodes (get_or ids i 0) in
      let P : List GroundTerm → Type 0 = λ ts. AreTermsAt nodes found ts in
      subst P (sym (filter_next lt ∙ (ap (λ b. filter p (terms_at nodes (take i ids)) ++ cond b (t ∷ []) []) e ∙ append-nil (filter p (terms_at nodes (take i ids)))))) h

-- where nodes were added before
pub listed_after : (ts : List GroundTerm) (a b d : List TermNode) (p q : List ℕ) → Extends a b → AreListed ts b d p q → AreListed ts a d p q
listed_after ts a b d p q e h = record { kept = extends_both a b d e h.kept; ids = h.ids; stand = h.stand; whole = h.whole }

-- and where some are added behind, but none is listed
pub listed_before : (ts : List GroundTerm) (a b d : List TermNode) (p q : List ℕ) → Extends b d → AreListed ts a b p q → AreListed ts a d p q
listed_before ts a b d p q e h = record { kept = extends_both a b d h.kept e; ids = h.ids; stand = terms_at_kept b d h.ids ts e h.stand; whole = h.whole }

-- a node that was added and not listed
pub none_listed : (old new : List TermNode) (node : TermNode) (id : ℕ) (p : List ℕ) → IsAdded old node new id → AreListed [] old new p p
none_listed old new node id p h = record { kept = h.kept; ids = []; stand = record { ones = tt; are = refl }; whole = sym (append-nil p) }

module _ (nodes : List TermNode) where
  pub reverse-push : {A : Type 0} (xs : List A) (x : A) → reverse (x ∷ xs) ≡ reverse xs ++ x ∷ []
  reverse-push xs x = reverse-append (x ∷ []) xs

  -- the other way round
  pub terms_reversed : (ids : List ℕ) (ts : List GroundTerm) → AreTermsAt nodes ids ts → AreTermsAt nodes (reverse ids) (reverse ts)
  terms_reversed ids ts h =
      let P : List GroundTerm → Type 0 = λ ts. AreTermsAt nodes (reverse ids) (reverse ts) in subst P h.are (by ids h.ones)
    where
      by : (ids : List ℕ) → AreOnes nodes ids → AreTermsAt nodes (reverse ids) (reverse (terms_at nodes ids))
      by [] h = record { ones = tt; are = refl }
      by (id ∷ ids) h =
          let t : GroundTerm = term_of nodes id in
          let P : List ℕ → Type 0 = λ xs. AreTermsAt nodes xs (reverse (t ∷ terms_at nodes ids)) in
          let Q : List GroundTerm → Type 0 = λ ts. AreTermsAt nodes (reverse ids ++ id ∷ []) ts in
          subst P (sym (reverse-push ids id))
          (subst Q (sym (reverse-push (terms_at nodes ids) t))
          (terms_append nodes (reverse ids) (id ∷ []) (reverse (terms_at nodes ids)) (t ∷ []) (by ids h.1) (record { ones = (h.0, tt); are = refl })))

-- one more element of a list that is gone through
pub part_listed : {A : Type 0} (h : A → List GroundTerm) (xs : List A) (i : ℕ) (x : A) (a b d : List TermNode) (p q r : List ℕ) → i < length xs → x ≡ get_or xs i x
    → AreListed (flat_map h (take i xs)) a b p q → AreListed (h x) b d q r → AreListed (flat_map h (take (i + 1) xs)) a d p r
part_listed h xs i x a b d p q r lt e m n =
    listed_more (flat_map h (take i xs)) (h x) (flat_map h (take (i + 1) xs)) a b d p q r m n (flat_next h xs i x lt ∙ ap (λ y. flat_map h (take i xs) ++ h y) (sym e))

-- the numbers at all places are those of terms
pub one_there : (nodes : List TermNode) (ids : List ℕ) → AreOnes nodes ids → (k id : ℕ) → slice_get ids k ≡ Some id → IsOne nodes id
one_there nodes [] ones k id e = cc
one_there nodes (x ∷ ids) ones zero id e = let same : x ≡ id = cc in let P : ℕ → Type 0 = λ id. IsOne nodes id in subst P same ones.0
one_there nodes (x ∷ ids) ones (suc k) id e = one_there nodes ids ones.1 k id e

pub ones_there : (nodes : List TermNode) (ids : List ℕ) → ((k id : ℕ) → slice_get ids k ≡ Some id → IsOne nodes id) → AreOnes nodes ids
ones_there nodes [] h = tt
ones_there nodes (x ∷ ids) h = (h zero x refl, ones_there nodes ids (λ k id e. h (suc k) id e))
