-- Formulas without quantifiers: which they are, and walks over them.
use Rattle.std.proofs.Common.{◌≡◌, ◌⊎◌, inl, inr, ℕ, zero, suc, ◌+◌, ◌<◌, Bool, true, refl, sym, ◌∙◌, List, [], ◌∷◌, ◌++◌, Contains, Option, length, get_or, ap, ap₂, subst, arith, map, append_assoc, append-nil}
use Rattle.std.specs.Prelude.{reverse}
use Rattle.std.specs.List.{AllByRecursion, flat_map, sum_by}
use Rattle.std.proofs.lemmas.List.{reverse-append}
use Rattle.std.proofs.lemmas.List.Elements.{Contains-append_cases, Contains-append_left, Contains-append_right, Contains-push_cases}
use Rattle.std.proofs.lemmas.List.Sums.{sum_by-append}
use Rattle.form_formula.specs.declared.node.Node.{Node}
use Rattle.form_formula.specs.declared.node.Node.TheVariants as node
use Rattle.form_formula.specs.Nodes.{IsBelow, IsFormula, IsPlaced, IsTerm, formula_of, formula_part, term_of, tree_from, tree_of, trees_of}
use Rattle.form_formula.specs.Trees.{Term, Formula, yes, no, equal, less, has, flag, present, negation, both, either, exists, forall}
use Rattle.form_strata.specs.Visits.{steps_of}
use Rattle.form_terms.specs.GroundTerms.{GroundTerm}
use Rattle.form_terms.specs.Parts.{quantifiers, parts}
use Rattle.form_terms.specs.Parts as tree
use Rattle.form_terms.proofs.Lists.{Contains-none}
use Rattle.ground_terms.specs.declared.matrix.MatrixWalk.{MatrixWalk}
use Rattle.ground_terms.specs.Codes.{is_marked}
use Rattle.ground_terms.specs.Matrices.{AnyTerm, AreMatrices, CameTo, Before, Now, IsAwaited, IsMatrix, IsMatrixWalk, IsPlainNode, atom_terms, matrix_parts, matrix_terms, terms_below}
use Rattle.ground_terms.specs.Parts.{Thins}
use Rattle.ground_terms.proofs.Standing.{map-append}
use Rattle.ground_terms.proofs.Thinned.{thins-front, thins-kept}

-- the parts of a formula without quantifiers are its terms
pub parts-of-matrix : (number : ℕ) (names : List (Option GroundTerm)) (above : List ℕ) (f : Formula) → quantifiers f ≡ 0
    → parts number names above f ≡ map (tree.atom_term names) (atom_terms f)
parts-of-matrix number names above yes e = refl
parts-of-matrix number names above no e = refl
parts-of-matrix number names above (equal t u) e = refl
parts-of-matrix number names above (less t u) e = refl
parts-of-matrix number names above (has r t u) e = refl
parts-of-matrix number names above (flag f t) e = refl
parts-of-matrix number names above (present f t) e = refl
parts-of-matrix number names above (negation a) e = parts-of-matrix number names above a e
parts-of-matrix number names above (both a b) e =
    let p : quantifiers a ≡ 0 = omega arith in
    let q : quantifiers b ≡ 0 = omega arith in
    ap₂ (λ xs ys. xs ++ ys) (parts-of-matrix number names above a p) (parts-of-matrix (number + quantifiers a) names above b q)
    ∙ sym (map-append (tree.atom_term names) (atom_terms a) (atom_terms b))
parts-of-matrix number names above (either a b) e =
    let p : quantifiers a ≡ 0 = omega arith in
    let q : quantifiers b ≡ 0 = omega arith in
    ap₂ (λ xs ys. xs ++ ys) (parts-of-matrix number names above a p) (parts-of-matrix (number + quantifiers a) names above b q)
    ∙ sym (map-append (tree.atom_term names) (atom_terms a) (atom_terms b))
parts-of-matrix number names above (exists sort a) e = absurd (omega arith)
parts-of-matrix number names above (forall sort a) e = absurd (omega arith)

pub a-step : (f : Formula) → 0 < steps_of f
a-step yes = omega arith
a-step no = omega arith
a-step (equal t u) = omega arith
a-step (less t u) = omega arith
a-step (has r t u) = omega arith
a-step (flag f t) = omega arith
a-step (present f t) = omega arith
a-step (negation a) = omega arith
a-step (both a b) = omega arith
a-step (either a b) = omega arith
a-step (exists sort a) = omega arith
a-step (forall sort a) = omega arith

all-append : {A : Type 0} (P : A → Type 0) (xs ys : List A) → AllByRecursion P xs → AllByRecursion P ys → AllByRecursion P (xs ++ ys)
all-append P [] ys p q = q
all-append P (x ∷ xs) ys p q = (p.0, all-append P xs ys p.1 q)

all-left : {A : Type 0} (P : A → Type 0) (xs ys : List A) → AllByRecursion P (xs ++ ys) → AllByRecursion P xs
all-left P [] ys h = tt
all-left P (x ∷ xs) ys h = (h.0, all-left P xs ys h.1)

all-last : {A : Type 0} (P : A → Type 0) (xs : List A) (x : A) → AllByRecursion P (xs ++ x ∷ []) → P x
all-last P [] x h = h.0
all-last P (y ∷ xs) x h = all-last P xs x h.1

all-more : {A : Type 0} (P Q : A → Type 0) → ((x : A) → P x → Q x) → (xs : List A) → AllByRecursion P xs → AllByRecursion Q xs
all-more P Q h [] all = tt
all-more P Q h (x ∷ xs) all = (h x all.0, all-more P Q h xs all.1)

pub all-at : {A : Type 0} (P : A → Type 0) (xs : List A) (k : ℕ) (d : A) → AllByRecursion P xs → k < length xs → P (get_or xs k d)
all-at P [] k d all lt = absurd (omega arith)
all-at P (x ∷ xs) zero d all lt = all.0
all-at P (x ∷ xs) (suc k) d all lt = all-at P xs k d all.1 (omega arith)

flat-append : {A B : Type 0} (h : A → List B) (xs ys : List A) → flat_map h (xs ++ ys) ≡ flat_map h xs ++ flat_map h ys
flat-append h [] ys = refl
flat-append h (x ∷ xs) ys = ap (λ zs. h x ++ zs) (flat-append h xs ys) ∙ sym (append_assoc (h x) (flat_map h xs) (flat_map h ys))

module _ (nodes : List Node) where
  -- ---- one node

  node-terms : (n : Node) → quantifiers (formula_part (tree_from (trees_of nodes) n)) ≡ 0
      → atom_terms (formula_part (tree_from (trees_of nodes) n)) ≡ flat_map (terms_below nodes) (matrix_parts n) ++ map (term_of nodes) (reverse (matrix_terms n))
  node-terms (node.Bound sort depth) e = refl
  node-terms (node.Num n) e = refl
  node-terms (node.Str t) e = refl
  node-terms (node.App f t) e = refl
  node-terms node.Yes e = refl
  node-terms node.No e = refl
  node-terms (node.Eq s t) e = refl
  node-terms (node.Less s t) e = refl
  node-terms (node.Has r s t) e = refl
  node-terms (node.Flag f t) e = refl
  node-terms (node.Present f t) e = refl
  node-terms (node.Not a) e = sym (append-nil (terms_below nodes a ++ []) ∙ append-nil (terms_below nodes a))
  node-terms (node.And a b) e =
      sym (append-nil (terms_below nodes a ++ (terms_below nodes b ++ [])) ∙ ap (λ zs. terms_below nodes a ++ zs) (append-nil (terms_below nodes b)))
  node-terms (node.Or a b) e =
      sym (append-nil (terms_below nodes a ++ (terms_below nodes b ++ [])) ∙ ap (λ zs. terms_below nodes a ++ zs) (append-nil (terms_below nodes b)))
  node-terms (node.Exists sort a) e = absurd (omega arith)
  node-terms (node.Forall sort a) e = absurd (omega arith)

  node-steps : (n : Node) → sum_by (λ p. steps_of (formula_of nodes p)) (matrix_parts n) < steps_of (formula_part (tree_from (trees_of nodes) n))
  node-steps (node.Bound sort depth) = omega arith
  node-steps (node.Num n) = omega arith
  node-steps (node.Str t) = omega arith
  node-steps (node.App f t) = omega arith
  node-steps node.Yes = omega arith
  node-steps node.No = omega arith
  node-steps (node.Eq s t) = omega arith
  node-steps (node.Less s t) = omega arith
  node-steps (node.Has r s t) = omega arith
  node-steps (node.Flag f t) = omega arith
  node-steps (node.Present f t) = omega arith
  node-steps (node.Not a) = omega arith
  node-steps (node.And a b) = omega arith
  node-steps (node.Or a b) = omega arith
  node-steps (node.Exists sort a) = omega arith
  node-steps (node.Forall sort a) = omega arith

  node-matrices : (n : Node) → IsPlaced nodes n → quantifiers (formula_part (tree_from (trees_of nodes) n)) ≡ 0 → AllByRecursion (IsMatrix nodes) (matrix_parts n)
  node-matrices (node.Bound sort depth) placed e = tt
  node-matrices (node.Num n) placed e = tt
  node-matrices (node.Str t) placed e = tt
  node-matrices (node.App f t) placed e = tt
  node-matrices node.Yes placed e = tt
  node-matrices node.No placed e = tt
  node-matrices (node.Eq s t) placed e = tt
  node-matrices (node.Less s t) placed e = tt
  node-matrices (node.Has r s t) placed e = tt
  node-matrices (node.Flag f t) placed e = tt
  node-matrices (node.Present f t) placed e = tt
  node-matrices (node.Not a) placed e = (record { formula = placed; plain = e }, tt)
  node-matrices (node.And a b) placed e = (record { formula = placed.0; plain = omega arith }, (record { formula = placed.1; plain = omega arith }, tt))
  node-matrices (node.Or a b) placed e = (record { formula = placed.0; plain = omega arith }, (record { formula = placed.1; plain = omega arith }, tt))
  node-matrices (node.Exists sort a) placed e = tt
  node-matrices (node.Forall sort a) placed e = tt

  node-are-terms : (n : Node) → IsPlaced nodes n → AllByRecursion (IsTerm nodes) (reverse (matrix_terms n))
  node-are-terms (node.Bound sort depth) placed = tt
  node-are-terms (node.Num n) placed = tt
  node-are-terms (node.Str t) placed = tt
  node-are-terms (node.App f t) placed = tt
  node-are-terms node.Yes placed = tt
  node-are-terms node.No placed = tt
  node-are-terms (node.Eq s t) placed = (placed.0, (placed.1, tt))
  node-are-terms (node.Less s t) placed = (placed.0, (placed.1, tt))
  node-are-terms (node.Has r s t) placed = (placed.0, (placed.1, tt))
  node-are-terms (node.Flag f t) placed = (placed, tt)
  node-are-terms (node.Present f t) placed = (placed, tt)
  node-are-terms (node.Not a) placed = tt
  node-are-terms (node.And a b) placed = tt
  node-are-terms (node.Or a b) placed = tt
  node-are-terms (node.Exists sort a) placed = tt
  node-are-terms (node.Forall sort a) placed = tt

node-below : (p : ℕ) (n : Node) → IsBelow p n → AllByRecursion (λ q. q < p) (matrix_parts n)
node-below p (node.Bound sort depth) h = tt
node-below p (node.Num n) h = tt
node-below p (node.Str t) h = tt
node-below p (node.App f t) h = tt
node-below p node.Yes h = tt
node-below p node.No h = tt
node-below p (node.Eq s t) h = tt
node-below p (node.Less s t) h = tt
node-below p (node.Has r s t) h = tt
node-below p (node.Flag f t) h = tt
node-below p (node.Present f t) h = tt
node-below p (node.Not a) h = (h, tt)
node-below p (node.And a b) h = (h.0, (h.1, tt))
node-below p (node.Or a b) h = (h.0, (h.1, tt))
node-below p (node.Exists sort a) h = tt
node-below p (node.Forall sort a) h = tt

-- ---- what is awaited

module _ (nodes : List Node) where
  top-popped : (v : ℕ) (t : Term) (front : List ℕ) (p : ℕ) → IsAwaited nodes v t (front ++ p ∷ []) → (p < v) × (Contains (terms_below nodes p) t ⊎ IsAwaited nodes v t front)
  top-popped v t [] p (inl none) = absurd none
  top-popped v t [] p (inr here) = (here.0.0, inl here.1)
  top-popped v t (q ∷ front) p (inl later) =
      let rest = top-popped v t front p later in (
        rest.0,
        elim rest.1 [ inl last ↦ inl last | inr before ↦ inr (inl before) ],
      )
  top-popped v t (q ∷ front) p (inr here) = (
    all-last (λ r. r < v) (q ∷ front) p here.0,
    inr (inr (all-left (λ r. r < v) (q ∷ front) (p ∷ []) here.0, here.1)),
  )

  top-kept : (v : ℕ) (t : Term) (front more : List ℕ) → AllByRecursion (λ r. r < v) more → IsAwaited nodes v t front → IsAwaited nodes v t (front ++ more)
  top-kept v t [] more below h = absurd h
  top-kept v t (q ∷ front) more below (inl later) = inl (top-kept v t front more below later)
  top-kept v t (q ∷ front) more below (inr here) = inr (all-append (λ r. r < v) (q ∷ front) more here.0 below, here.1)

  top-new : (v : ℕ) (t : Term) (more : List ℕ) → AllByRecursion (λ r. r < v) more → Contains (flat_map (terms_below nodes) more) t → IsAwaited nodes v t more
  top-new v t [] below c = Contains-none t c
  top-new v t (q ∷ more) below c =
      elim (Contains-append_cases (terms_below nodes q) (flat_map (terms_below nodes) more) t c) [
        | inl here ↦ inr (below, here)
        | inr later ↦ inl (top-new v t more below.1 later)
      ]

  behind : (v : ℕ) (t : Term) (front more : List ℕ) → IsAwaited nodes v t more → IsAwaited nodes v t (front ++ more)
  behind v t [] more h = h
  behind v t (q ∷ front) more h = inl (behind v t front more h)

  -- ---- the walk

  pub matrix-begun : (id : ℕ) (w : MatrixWalk) → w.seen.keys ≡ [] → w.pending.items ≡ id ∷ [] → w.terms.items ≡ [] → IsMatrix nodes id → IsMatrixWalk nodes (terms_below nodes id) w
  matrix-begun id w keys pending terms is =
      let none : reverse w.terms.items ≡ [] = ap (λ (xs : List ℕ). reverse xs) terms in
      record {
        pending = subst (λ (xs : List ℕ). AllByRecursion (IsMatrix nodes) xs) (sym pending) (is, tt);
        terms = subst (λ (xs : List ℕ). AllByRecursion (IsTerm nodes) xs) (sym none) tt;
        full = [];
        whole = ap (λ (xs : List ℕ). flat_map (terms_below nodes) xs ++ []) pending ∙ (append-nil (terms_below nodes id ++ []) ∙ append-nil (terms_below nodes id));
        thinned = ap (λ (xs : List ℕ). map (term_of nodes) xs) none;
        seen = λ v c t d. Contains-none v (subst (λ (ks : List ℕ). Contains ks v) keys c);
      }

  module _ (total : List Term) (w0 w1 w2 : MatrixWalk) (p : ℕ) (n : Node) (split : w0.pending.items ≡ w1.pending.items ++ p ∷ []) (same_keys : w1.seen.keys ≡ w0.seen.keys) (same_terms : w1.terms.items ≡ w0.terms.items)
      (is : IsMatrixWalk nodes total w0) (means : tree_of nodes p ≡ tree_from (trees_of nodes) n) (placed : IsPlaced nodes n) (low : IsBelow p n) where
    all : AllByRecursion (IsMatrix nodes) (w1.pending.items ++ p ∷ [])
    all = subst (λ (xs : List ℕ). AllByRecursion (IsMatrix nodes) xs) split is.pending

    no_quantifier : quantifiers (formula_part (tree_from (trees_of nodes) n)) ≡ 0
    no_quantifier = ap (λ tree. quantifiers (formula_part tree)) (sym means) ∙ (all-last (IsMatrix nodes) w1.pending.items p all).plain

    terms_split : terms_below nodes p ≡ flat_map (terms_below nodes) (matrix_parts n) ++ map (term_of nodes) (reverse (matrix_terms n))
    terms_split = ap (λ tree. atom_terms (formula_part tree)) means ∙ node-terms nodes n no_quantifier

    seen_before : (v : ℕ) → Contains w1.seen.keys v → (t : Term) → Contains (terms_below nodes v) t
        → Contains is.full t ⊎ ((p < v) × (Contains (terms_below nodes p) t ⊎ IsAwaited nodes v t w1.pending.items))
    seen_before v c t d =
        elim (is.seen v (subst (λ (ks : List ℕ). Contains ks v) same_keys c) t d) [
          | inl found ↦ inl found
          | inr awaited ↦ inr (top-popped v t w1.pending.items p (subst (λ (xs : List ℕ). IsAwaited nodes v t xs) split awaited))
        ]

    whole_before : flat_map (terms_below nodes) w1.pending.items ++ (terms_below nodes p ++ is.full) ≡ total
    whole_before =
        let one : flat_map (terms_below nodes) (w1.pending.items ++ p ∷ []) ≡ flat_map (terms_below nodes) w1.pending.items ++ terms_below nodes p =
        flat-append (terms_below nodes) w1.pending.items (p ∷ []) ∙ ap (λ zs. flat_map (terms_below nodes) w1.pending.items ++ zs) (append-nil (terms_below nodes p)) in
        sym (append_assoc (flat_map (terms_below nodes) w1.pending.items) (terms_below nodes p) is.full)
        ∙ (ap (λ zs. zs ++ is.full) (sym one) ∙ (ap (λ (xs : List ℕ). flat_map (terms_below nodes) xs ++ is.full) (sym split) ∙ is.whole))

    steps_before : sum_by (λ q. steps_of (formula_of nodes q)) w0.pending.items ≡ sum_by (λ q. steps_of (formula_of nodes q)) w1.pending.items + (0 + steps_of (formula_of nodes p))
    steps_before = ap (λ (xs : List ℕ). sum_by (λ q. steps_of (formula_of nodes q)) xs) split ∙ sum_by-append (λ q. steps_of (formula_of nodes q)) w1.pending.items (p ∷ [])

    -- the walk came to the formula before
    stayed : Contains w1.seen.keys p → w2.seen.keys ≡ w1.seen.keys → w2.pending.items ≡ w1.pending.items → w2.terms.items ≡ w1.terms.items → IsMatrixWalk nodes total w2
    stayed before keys pending terms =
        let again : (t : Term) → Contains (terms_below nodes p) t → Contains is.full t =
        λ t c. elim (seen_before p before t c) [ inl found ↦ found | inr later ↦ absurd (let lt = later.0 in omega arith) ] in
        let now : reverse w2.terms.items ≡ reverse w0.terms.items = ap (λ (xs : List ℕ). reverse xs) (terms ∙ same_terms) in
        record {
          pending = subst (λ (xs : List ℕ). AllByRecursion (IsMatrix nodes) xs) (sym pending) (all-left (IsMatrix nodes) w1.pending.items (p ∷ []) all);
          terms = subst (λ (xs : List ℕ). AllByRecursion (IsTerm nodes) xs) (sym now) is.terms;
          full = terms_below nodes p ++ is.full;
          whole = ap (λ (xs : List ℕ). flat_map (terms_below nodes) xs ++ (terms_below nodes p ++ is.full)) pending ∙ whole_before;
          thinned = subst (λ (xs : List ℕ). Thins AnyTerm (terms_below nodes p ++ is.full) (map (term_of nodes) xs)) (sym now)
              (thins-front AnyTerm (terms_below nodes p) is.full (map (term_of nodes) (reverse w0.terms.items)) (λ t. tt) again is.thinned);
          seen = λ v c t d.
              elim (seen_before v (subst (λ (ks : List ℕ). Contains ks v) keys c) t d) [
                | inl found ↦ inl (Contains-append_right (terms_below nodes p) is.full t found)
                | inr later ↦ elim later.1 [
                  | inl here ↦ inl (Contains-append_left (terms_below nodes p) is.full t here)
                  | inr awaited ↦ inr (subst (λ (xs : List ℕ). IsAwaited nodes v t xs) (sym pending) awaited)
                ]
              ];
        }

    -- the walk goes on from it
    covered : (v : ℕ) (t : Term) → AllByRecursion (λ r. r < v) (matrix_parts n) → Contains (terms_below nodes p) t
        → Contains (map (term_of nodes) (reverse (matrix_terms n)) ++ is.full) t ⊎ IsAwaited nodes v t (w1.pending.items ++ matrix_parts n)
    covered v t below c =
        elim (Contains-append_cases (flat_map (terms_below nodes) (matrix_parts n)) (map (term_of nodes) (reverse (matrix_terms n))) t (subst (λ (xs : List Term). Contains xs t) terms_split c)) [
          | inl part ↦ inr (behind v t w1.pending.items (matrix_parts n) (top-new v t (matrix_parts n) below part))
          | inr own ↦ inl (Contains-append_left (map (term_of nodes) (reverse (matrix_terms n))) is.full t own)
        ]

    went_on : w2.seen.keys ≡ w1.seen.keys ++ p ∷ [] → w2.pending.items ≡ w1.pending.items ++ matrix_parts n → w2.terms.items ≡ w1.terms.items ++ matrix_terms n → IsMatrixWalk nodes total w2
    went_on keys pending terms =
        let own : List Term = map (term_of nodes) (reverse (matrix_terms n)) in
        let now : reverse w2.terms.items ≡ reverse (matrix_terms n) ++ reverse w0.terms.items =
        ap (λ (xs : List ℕ). reverse xs) (terms ∙ ap (λ (xs : List ℕ). xs ++ matrix_terms n) same_terms) ∙ reverse-append w0.terms.items (matrix_terms n) in
        let mapped : map (term_of nodes) (reverse w2.terms.items) ≡ own ++ map (term_of nodes) (reverse w0.terms.items) =
        ap (λ (xs : List ℕ). map (term_of nodes) xs) now ∙ map-append (term_of nodes) (reverse (matrix_terms n)) (reverse w0.terms.items) in
        let low_parts = node-below p n low in
        let lower : (v : ℕ) → p < v → AllByRecursion (λ r. r < v) (matrix_parts n) =
        λ v lt. all-more (λ r. r < p) (λ r. r < v) (λ r h. omega (arith, h, lt)) (matrix_parts n) low_parts in
        record {
          pending = subst (λ (xs : List ℕ). AllByRecursion (IsMatrix nodes) xs) (sym pending)
              (all-append (IsMatrix nodes) w1.pending.items (matrix_parts n) (all-left (IsMatrix nodes) w1.pending.items (p ∷ []) all) (node-matrices nodes n placed no_quantifier));
          terms = subst (λ (xs : List ℕ). AllByRecursion (IsTerm nodes) xs) (sym now)
              (all-append (IsTerm nodes) (reverse (matrix_terms n)) (reverse w0.terms.items) (node-are-terms nodes n placed) is.terms);
          full = own ++ is.full;
          whole =
              let G = flat_map (terms_below nodes) w1.pending.items in
              let H = flat_map (terms_below nodes) (matrix_parts n) in
              ap (λ (xs : List ℕ). flat_map (terms_below nodes) xs ++ (own ++ is.full)) pending
              ∙ (ap (λ zs. zs ++ (own ++ is.full)) (flat-append (terms_below nodes) w1.pending.items (matrix_parts n))
              ∙ (append_assoc G H (own ++ is.full)
              ∙ (ap (λ zs. G ++ zs) (sym (append_assoc H own is.full))
              ∙ (ap (λ zs. G ++ (zs ++ is.full)) (sym terms_split) ∙ whole_before))));
          thinned = subst (λ (xs : List Term). Thins AnyTerm (own ++ is.full) xs) (sym mapped) (thins-kept AnyTerm own is.full (map (term_of nodes) (reverse w0.terms.items)) is.thinned);
          seen = λ v c t d.
              let Q : List ℕ → Type 0 = λ xs. Contains (own ++ is.full) t ⊎ IsAwaited nodes v t xs in
              subst Q (sym pending)
              (elim (Contains-push_cases w1.seen.keys p v (subst (λ (ks : List ℕ). Contains ks v) keys c)) [
                | inl before ↦
                    elim (seen_before v before t d) [
                      | inl found ↦ inl (Contains-append_right own is.full t found)
                      | inr later ↦ elim later.1 [
                        | inl here ↦ covered v t (lower v later.0) here
                        | inr awaited ↦ inr (top-kept v t w1.pending.items (matrix_parts n) (lower v later.0) awaited)
                      ]
                    ]
                | inr same ↦
                    let P : ℕ → Type 0 = λ u. Contains (terms_below nodes u) t → Contains (own ++ is.full) t ⊎ IsAwaited nodes u t (w1.pending.items ++ matrix_parts n) in
                    subst P same (covered p t low_parts) d
              ]);
        }

    pub matrix-step : CameTo p n w1 w2 → IsMatrixWalk nodes total w2 × (sum_by (λ q. steps_of (formula_of nodes q)) w2.pending.items < sum_by (λ q. steps_of (formula_of nodes q)) w0.pending.items)
    matrix-step (Before before keys pending terms) =
        let one = a-step (formula_of nodes p) in
        let size = ap (λ (xs : List ℕ). sum_by (λ q. steps_of (formula_of nodes q)) xs) pending in
        let all_steps = steps_before in
        (stayed before keys pending terms, omega arith)
    matrix-step (Now keys pending terms) =
        let fewer = node-steps nodes n in
        let same : steps_of (formula_of nodes p) ≡ steps_of (formula_part (tree_from (trees_of nodes) n)) = ap (λ tree. steps_of (formula_part tree)) means in
        let size = ap (λ (xs : List ℕ). sum_by (λ q. steps_of (formula_of nodes q)) xs) pending in
        let sum = sum_by-append (λ q. steps_of (formula_of nodes q)) w1.pending.items (matrix_parts n) in
        let all_steps = steps_before in
        (went_on keys pending terms, omega arith)

  pub last-matrix : (front : List ℕ) (p : ℕ) (pending : List ℕ) → pending ≡ front ++ p ∷ [] → AllByRecursion (IsMatrix nodes) pending → IsMatrix nodes p
  last-matrix front p pending e all = all-last (IsMatrix nodes) front p (subst (λ (xs : List ℕ). AllByRecursion (IsMatrix nodes) xs) e all)

  pub matrix-done : (total : List Term) (w : MatrixWalk) → IsMatrixWalk nodes total w → w.pending.items ≡ [] → Thins AnyTerm total (map (term_of nodes) (reverse w.terms.items))
  matrix-done total w is none =
      subst (λ (xs : List Term). Thins AnyTerm xs (map (term_of nodes) (reverse w.terms.items)))
      (ap (λ (xs : List ℕ). flat_map (terms_below nodes) xs ++ is.full) (sym none) ∙ is.whole) is.thinned

-- ---- which formulas are without quantifiers

pub plain-node : (nodes : List Node) (plain : ℕ → Type 0) → ((k : ℕ) → plain k → IsFormula nodes k → quantifiers (formula_of nodes k) ≡ 0) → (n : Node) → IsPlaced nodes n → IsPlainNode plain n
    → quantifiers (formula_part (tree_from (trees_of nodes) n)) ≡ 0
plain-node nodes plain each (node.Bound sort depth) placed h = refl
plain-node nodes plain each (node.Num n) placed h = refl
plain-node nodes plain each (node.Str t) placed h = refl
plain-node nodes plain each (node.App f t) placed h = refl
plain-node nodes plain each node.Yes placed h = refl
plain-node nodes plain each node.No placed h = refl
plain-node nodes plain each (node.Eq s t) placed h = refl
plain-node nodes plain each (node.Less s t) placed h = refl
plain-node nodes plain each (node.Has r s t) placed h = refl
plain-node nodes plain each (node.Flag f t) placed h = refl
plain-node nodes plain each (node.Present f t) placed h = refl
plain-node nodes plain each (node.Not a) placed h = each a h placed
plain-node nodes plain each (node.And a b) placed h = let p = each a h.0 placed.0 in let q = each b h.1 placed.1 in omega arith
plain-node nodes plain each (node.Or a b) placed h = let p = each a h.0 placed.0 in let q = each b h.1 placed.1 in omega arith
plain-node nodes plain each (node.Exists sort a) placed h = absurd h
plain-node nodes plain each (node.Forall sort a) placed h = absurd h

pushed-mark : (marks : List Bool) (mark : Bool) (id : ℕ) → is_marked (marks ++ mark ∷ []) id ≡ true → (is_marked marks id ≡ true) ⊎ ((id ≡ length marks) × (mark ≡ true))
pushed-mark [] mark zero e = inr (refl, e)
pushed-mark [] mark (suc id) e = absurd cc
pushed-mark (m ∷ marks) mark zero e = inl e
pushed-mark (m ∷ marks) mark (suc id) e = elim (pushed-mark marks mark id e) [ inl before ↦ inl before | inr last ↦ inr (ap suc last.0, last.1) ]

-- one mark more
pub matrices-more : (nodes : List Node) (marks : List Bool) (mark : Bool) (n : Node) → AreMatrices nodes marks → IsPlaced nodes n → tree_of nodes (length marks) ≡ tree_from (trees_of nodes) n
    → (mark ≡ true → IsPlainNode (λ k. is_marked marks k ≡ true) n) → AreMatrices nodes (marks ++ mark ∷ [])
matrices-more nodes marks mark n are placed means plain = λ id marked formula.
    elim (pushed-mark marks mark id marked) [
      | inl before ↦ are id before formula
      | inr last ↦
          let none = plain-node nodes (λ k. is_marked marks k ≡ true) are n placed (plain last.1) in
          ap (λ k. quantifiers (formula_of nodes k)) last.0 ∙ (ap (λ tree. quantifiers (formula_part tree)) means ∙ none)
    ]
