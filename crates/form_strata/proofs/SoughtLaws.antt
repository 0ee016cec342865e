-- The edges of a formula are those that are sought.
use Rattle.std.proofs.Common.{◌≡◌, ℕ, zero, suc, ◌+◌, ◌⊎◌, inl, inr, Bool, true, false, cond, refl, sym, ◌∙◌, List, [], ◌∷◌, ◌++◌, map, ap, subst, arith, Contains}
use Rattle.std.specs.Prelude.{slice_get, slice_index_or}
use Rattle.std.proofs.lemmas.List.Elements.{Contains-append_cases, Contains-append_left, Contains-append_right, Contains-push, Contains-push_cases}
use Rattle.form_formula.specs.declared.structure.Signature.{Signature}
use Rattle.form_formula.specs.Trees.{Term, Formula, bound, num, str, app, yes, no, equal, less, has, flag, present, negation, both, either, exists, forall}
use Rattle.form_strata.specs.declared.visit.Above.TheVariants.{Exists, Forall, From}
use Rattle.form_strata.specs.SortGraph.{edges, edges_of, function_edge, has_items, is_dependent, term_edges}
use Rattle.form_strata.specs.Visits.{HaveSame, free_ones, sought}
use Rattle.form_strata.proofs.Members.{cons_cases, head_in, in_map, map_in, none_in, tail_in}

-- the variables above are dependent but for so many of the outermost
abbrev IsFixed : List Bool → ℕ → Type 0
IsFixed dependent free = (k : ℕ) → slice_index_or dependent k true ≡ slice_index_or (free_ones free) k true

more_true : (xs : List Bool) (k : ℕ) → slice_index_or (xs ++ true ∷ []) k true ≡ slice_index_or xs k true
more_true [] zero = refl
more_true [] (suc k) = refl
more_true (x ∷ xs) zero = refl
more_true (x ∷ xs) (suc k) = more_true xs k

fixed_more : (dependent : List Bool) (free : ℕ) → IsFixed dependent free → IsFixed (dependent ++ true ∷ []) free
fixed_more dependent free h k = more_true dependent k ∙ h k

one_more : (n : ℕ) → free_ones n ++ false ∷ [] ≡ free_ones (n + 1)
one_more zero = refl
one_more (suc n) = let on : suc (n + 1) ≡ suc n + 1 = omega arith in ap (λ xs. false ∷ xs) (one_more n) ∙ ap (λ k. free_ones k) on

has_last : (xs : List ℕ) (x : ℕ) → has_items (xs ++ x ∷ []) ≡ true
has_last [] x = refl
has_last (y ∷ xs) x = refl

module _ (g : Signature) where
  same_dependence : (dependent : List Bool) (free : ℕ) → IsFixed dependent free → (t : Term) → is_dependent dependent t ≡ is_dependent (free_ones free) t
  same_dependence dependent free h (bound sort depth) = h depth
  same_dependence dependent free h (num n) = refl
  same_dependence dependent free h (str t) = refl
  same_dependence dependent free h (app f t) = same_dependence dependent free h t

  same_edges : (dependent : List Bool) (free : ℕ) → IsFixed dependent free → (t : Term) → term_edges dependent g t ≡ term_edges (free_ones free) g t
  same_edges dependent free h (bound sort depth) = refl
  same_edges dependent free h (num n) = refl
  same_edges dependent free h (str t) = refl
  same_edges dependent free h (app f t) =
      let d = same_dependence dependent free h t in
      let e = same_edges dependent free h t in
      ap (λ b. cond b (function_edge (slice_get g.funs f)) [] ++ term_edges dependent g t) d
      ∙ ap (λ es. cond (is_dependent (free_ones free) t) (function_edge (slice_get g.funs f)) [] ++ es) e

  same_both : (dependent : List Bool) (free : ℕ) → IsFixed dependent free → (t u : Term)
      → term_edges dependent g t ++ term_edges dependent g u ≡ term_edges (free_ones free) g t ++ term_edges (free_ones free) g u
  same_both dependent free h t u =
      ap (λ es. es ++ term_edges dependent g u) (same_edges dependent free h t) ∙ ap (λ es. term_edges (free_ones free) g t ++ es) (same_edges dependent free h u)

  -- an edge that is sought below a `forall`, or from one of some
  abbrev IsFound : ℕ → List ℕ → Formula → ℕ × ℕ → Type 0
  IsFound free above f e = Contains (sought g f (Forall free)) e ⊎ ((s : ℕ) × Contains above s × Contains (sought g f (From s)) e)

  found_left : (free : ℕ) (above : List ℕ) (a b : Formula) (e : ℕ × ℕ) → IsFound free above a e → IsFound free above (both a b) e
  found_left free above a b e h =
      elim h [
        | inl here ↦ inl (Contains-append_left (sought g a (Forall free)) (sought g b (Forall free)) e here)
        | inr from ↦ inr (from.0, from.1, Contains-append_left (sought g a (From from.0)) (sought g b (From from.0)) e from.2)
      ]

  found_right : (free : ℕ) (above : List ℕ) (a b : Formula) (e : ℕ × ℕ) → IsFound free above b e → IsFound free above (both a b) e
  found_right free above a b e h =
      elim h [
        | inl here ↦ inl (Contains-append_right (sought g a (Forall free)) (sought g b (Forall free)) e here)
        | inr from ↦ inr (from.0, from.1, Contains-append_right (sought g a (From from.0)) (sought g b (From from.0)) e from.2)
      ]

  found_part : (free : ℕ) (above : List ℕ) (a b : Formula) (e : ℕ × ℕ) → IsFound free above (both a b) e → IsFound free above a e ⊎ IsFound free above b e
  found_part free above a b e h =
      elim h [
        | inl here ↦
            elim (Contains-append_cases (sought g a (Forall free)) (sought g b (Forall free)) e here) [
              | inl left ↦ inl (inl left)
              | inr right ↦ inr (inl right)
            ]
        | inr from ↦
            elim (Contains-append_cases (sought g a (From from.0)) (sought g b (From from.0)) e from.2) [
              | inl left ↦ inl (inr (from.0, from.1, left))
              | inr right ↦ inr (inr (from.0, from.1, right))
            ]
      ]

  -- an edge of a term is sought below a `forall` alone
  found_term : (xs ys : List (ℕ × ℕ)) (e : ℕ × ℕ) → xs ≡ ys → Contains xs e → Contains ys e
  found_term xs ys e same c = let P : List (ℕ × ℕ) → Type 0 = λ zs. Contains zs e in subst P same c

  -- below a `forall`
  sought_below : (dependent : List Bool) (free : ℕ) (above : List ℕ) → IsFixed dependent free → has_items above ≡ true → (f : Formula) (e : ℕ × ℕ)
      → Contains (edges g dependent above f) e → IsFound free above f e
  sought_below dependent free above h i yes e c = none_in e c
  sought_below dependent free above h i no e c = none_in e c
  sought_below dependent free above h i (equal t u) e c = inl (found_term _ _ e (same_both dependent free h t u) c)
  sought_below dependent free above h i (less t u) e c = inl (found_term _ _ e (same_both dependent free h t u) c)
  sought_below dependent free above h i (has r t u) e c = inl (found_term _ _ e (same_both dependent free h t u) c)
  sought_below dependent free above h i (flag k t) e c = inl (found_term _ _ e (same_edges dependent free h t) c)
  sought_below dependent free above h i (present k t) e c = inl (found_term _ _ e (same_edges dependent free h t) c)
  sought_below dependent free above h i (negation a) e c = sought_below dependent free above h i a e c
  sought_below dependent free above h i (both a b) e c =
      elim (Contains-append_cases (edges g dependent above a) (edges g dependent above b) e c) [
        | inl left ↦ found_left free above a b e (sought_below dependent free above h i a e left)
        | inr right ↦ found_right free above a b e (sought_below dependent free above h i b e right)
      ]
  sought_below dependent free above h i (either a b) e c =
      elim (Contains-append_cases (edges g dependent above a) (edges g dependent above b) e c) [
        | inl left ↦ found_left free above a b e (sought_below dependent free above h i a e left)
        | inr right ↦ found_right free above a b e (sought_below dependent free above h i b e right)
      ]
  sought_below dependent free above h i (exists sort a) e c =
      elim (Contains-append_cases (map (λ from. (from, sort)) above) (edges g (dependent ++ has_items above ∷ []) above a) e c) [
        | inl here ↦
            let at = in_map (λ (from : ℕ). (from, sort)) above e here in
            let P : ℕ × ℕ → Type 0 = λ e. Contains ((at.0, sort) ∷ sought g a (From at.0)) e in
            inr (at.0, at.1, subst P at.2 (head_in (at.0, sort) (sought g a (From at.0))))
        | inr later ↦
            let P : Bool → Type 0 = λ b. Contains (edges g (dependent ++ b ∷ []) above a) e in
            elim (sought_below (dependent ++ true ∷ []) free above (fixed_more dependent free h) i a e (subst P i later)) [
              | inl here ↦ inl here
              | inr from ↦ inr (from.0, from.1, tail_in (from.0, sort) (sought g a (From from.0)) e from.2)
            ]
      ]
  sought_below dependent free above h i (forall sort a) e c =
      elim (sought_below (dependent ++ true ∷ []) free (above ++ sort ∷ []) (fixed_more dependent free h) (has_last above sort) a e c) [
        | inl here ↦ inl (Contains-append_left (sought g a (Forall free)) (sought g a (From sort)) e here)
        | inr from ↦
            elim (Contains-push_cases above sort from.0 from.1) [
              | inl old ↦ inr (from.0, old, from.2)
              | inr same ↦
                  let P : ℕ → Type 0 = λ s. Contains (sought g a (From s)) e in
                  inl (Contains-append_right (sought g a (Forall free)) (sought g a (From sort)) e (subst P (sym same) from.2))
            ]
      ]

  edge_below : (dependent : List Bool) (free : ℕ) (above : List ℕ) → IsFixed dependent free → has_items above ≡ true → (f : Formula) (e : ℕ × ℕ)
      → IsFound free above f e → Contains (edges g dependent above f) e
  edge_below dependent free above h i yes e c = elim c [ inl here ↦ none_in e here | inr from ↦ none_in e from.2 ]
  edge_below dependent free above h i no e c = elim c [ inl here ↦ none_in e here | inr from ↦ none_in e from.2 ]
  edge_below dependent free above h i (equal t u) e c = elim c [ inl here ↦ found_term _ _ e (sym (same_both dependent free h t u)) here | inr from ↦ none_in e from.2 ]
  edge_below dependent free above h i (less t u) e c = elim c [ inl here ↦ found_term _ _ e (sym (same_both dependent free h t u)) here | inr from ↦ none_in e from.2 ]
  edge_below dependent free above h i (has r t u) e c = elim c [ inl here ↦ found_term _ _ e (sym (same_both dependent free h t u)) here | inr from ↦ none_in e from.2 ]
  edge_below dependent free above h i (flag k t) e c = elim c [ inl here ↦ found_term _ _ e (sym (same_edges dependent free h t)) here | inr from ↦ none_in e from.2 ]
  edge_below dependent free above h i (present k t) e c = elim c [ inl here ↦ found_term _ _ e (sym (same_edges dependent free h t)) here | inr from ↦ none_in e from.2 ]
  edge_below dependent free above h i (negation a) e c = edge_below dependent free above h i a e c
  edge_below dependent free above h i (both a b) e c =
      elim (found_part free above a b e c) [
        | inl left ↦ Contains-append_left (edges g dependent above a) (edges g dependent above b) e (edge_below dependent free above h i a e left)
        | inr right ↦ Contains-append_right (edges g dependent above a) (edges g dependent above b) e (edge_below dependent free above h i b e right)
      ]
  edge_below dependent free above h i (either a b) e c =
      elim (found_part free above a b e c) [
        | inl left ↦ Contains-append_left (edges g dependent above a) (edges g dependent above b) e (edge_below dependent free above h i a e left)
        | inr right ↦ Contains-append_right (edges g dependent above a) (edges g dependent above b) e (edge_below dependent free above h i b e right)
      ]
  edge_below dependent free above h i (exists sort a) e c =
      let own : List (ℕ × ℕ) = map (λ from. (from, sort)) above in
      let P : Bool → Type 0 = λ b. Contains (edges g (dependent ++ b ∷ []) above a) e in
      let part : IsFound free above a e → Contains (own ++ edges g (dependent ++ has_items above ∷ []) above a) e =
      λ found. Contains-append_right own (edges g (dependent ++ has_items above ∷ []) above a) e
      (subst P (sym i) (edge_below (dependent ++ true ∷ []) free above (fixed_more dependent free h) i a e found)) in
      elim c [
        | inl here ↦ part (inl here)
        | inr from ↦
            elim (cons_cases (from.0, sort) (sought g a (From from.0)) e from.2) [
              | inl same ↦
                  let Q : ℕ × ℕ → Type 0 = λ e. Contains own e in
                  Contains-append_left own (edges g (dependent ++ has_items above ∷ []) above a) e (subst Q same (map_in (λ (from : ℕ). (from, sort)) above from.0 from.1))
              | inr later ↦ part (inr (from.0, from.1, later))
            ]
      ]
  edge_below dependent free above h i (forall sort a) e c =
      let part : IsFound free (above ++ sort ∷ []) a e → Contains (edges g (dependent ++ true ∷ []) (above ++ sort ∷ []) a) e =
      edge_below (dependent ++ true ∷ []) free (above ++ sort ∷ []) (fixed_more dependent free h) (has_last above sort) a e in
      elim c [
        | inl here ↦
            elim (Contains-append_cases (sought g a (Forall free)) (sought g a (From sort)) e here) [
              | inl left ↦ part (inl left)
              | inr right ↦ part (inr (sort, Contains-push above sort, right))
            ]
        | inr from ↦ part (inr (from.0, Contains-append_left above (sort ∷ []) from.0 from.1, from.2))
      ]

  -- where no `forall` stands above
  sought_free : (free : ℕ) (f : Formula) (e : ℕ × ℕ) → Contains (edges g (free_ones free) [] f) e → Contains (sought g f (Exists free)) e
  sought_free free yes e c = c
  sought_free free no e c = c
  sought_free free (equal t u) e c = c
  sought_free free (less t u) e c = c
  sought_free free (has r t u) e c = c
  sought_free free (flag k t) e c = c
  sought_free free (present k t) e c = c
  sought_free free (negation a) e c = sought_free free a e c
  sought_free free (both a b) e c =
      elim (Contains-append_cases (edges g (free_ones free) [] a) (edges g (free_ones free) [] b) e c) [
        | inl left ↦ Contains-append_left (sought g a (Exists free)) (sought g b (Exists free)) e (sought_free free a e left)
        | inr right ↦ Contains-append_right (sought g a (Exists free)) (sought g b (Exists free)) e (sought_free free b e right)
      ]
  sought_free free (either a b) e c =
      elim (Contains-append_cases (edges g (free_ones free) [] a) (edges g (free_ones free) [] b) e c) [
        | inl left ↦ Contains-append_left (sought g a (Exists free)) (sought g b (Exists free)) e (sought_free free a e left)
        | inr right ↦ Contains-append_right (sought g a (Exists free)) (sought g b (Exists free)) e (sought_free free b e right)
      ]
  sought_free free (exists sort a) e c =
      let P : List Bool → Type 0 = λ ds. Contains (edges g ds [] a) e in
      sought_free (free + 1) a e (subst P (one_more free) c)
  sought_free free (forall sort a) e c =
      elim (sought_below (free_ones free ++ true ∷ []) free (sort ∷ []) (fixed_more (free_ones free) free (λ k. refl)) refl a e c) [
        | inl here ↦ Contains-append_left (sought g a (Forall free)) (sought g a (From sort)) e here
        | inr from ↦
            elim (cons_cases sort [] from.0 from.1) [
              | inl same ↦
                  let P : ℕ → Type 0 = λ s. Contains (sought g a (From s)) e in
                  Contains-append_right (sought g a (Forall free)) (sought g a (From sort)) e (subst P (sym same) from.2)
              | inr none ↦ none_in from.0 none
            ]
      ]

  edge_free : (free : ℕ) (f : Formula) (e : ℕ × ℕ) → Contains (sought g f (Exists free)) e → Contains (edges g (free_ones free) [] f) e
  edge_free free yes e c = c
  edge_free free no e c = c
  edge_free free (equal t u) e c = c
  edge_free free (less t u) e c = c
  edge_free free (has r t u) e c = c
  edge_free free (flag k t) e c = c
  edge_free free (present k t) e c = c
  edge_free free (negation a) e c = edge_free free a e c
  edge_free free (both a b) e c =
      elim (Contains-append_cases (sought g a (Exists free)) (sought g b (Exists free)) e c) [
        | inl left ↦ Contains-append_left (edges g (free_ones free) [] a) (edges g (free_ones free) [] b) e (edge_free free a e left)
        | inr right ↦ Contains-append_right (edges g (free_ones free) [] a) (edges g (free_ones free) [] b) e (edge_free free b e right)
      ]
  edge_free free (either a b) e c =
      elim (Contains-append_cases (sought g a (Exists free)) (sought g b (Exists free)) e c) [
        | inl left ↦ Contains-append_left (edges g (free_ones free) [] a) (edges g (free_ones free) [] b) e (edge_free free a e left)
        | inr right ↦ Contains-append_right (edges g (free_ones free) [] a) (edges g (free_ones free) [] b) e (edge_free free b e right)
      ]
  edge_free free (exists sort a) e c =
      let P : List Bool → Type 0 = λ ds. Contains (edges g ds [] a) e in
      subst P (sym (one_more free)) (edge_free (free + 1) a e c)
  edge_free free (forall sort a) e c =
      let part : IsFound free (sort ∷ []) a e → Contains (edges g (free_ones free ++ true ∷ []) (sort ∷ []) a) e =
      edge_below (free_ones free ++ true ∷ []) free (sort ∷ []) (fixed_more (free_ones free) free (λ k. refl)) refl a e in
      elim (Contains-append_cases (sought g a (Forall free)) (sought g a (From sort)) e c) [
        | inl left ↦ part (inl left)
        | inr right ↦ part (inr (sort, head_in sort [], right))
      ]

  -- what is sought from the start are the edges of the formula
  pub sought_are_edges : (f : Formula) → HaveSame (sought g f (Exists 0)) (edges_of g f)
  sought_are_edges f = (λ e c. edge_free 0 f e c, λ e c. sought_free 0 f e c)
