-- A structure that passes a formula over a closed list of terms satisfies it when it is cut down.
use Rattle.std.proofs.Common.{◌≡◌, ℕ, zero, suc, ◌<◌, ◌⊎◌, inl, inr, true, refl, sym, ◌∙◌, List, [], ◌∷◌, ◌++◌, Some, None, Option, length, ap, subst, arith, slice_get, Contains, length-append}
use Rattle.std.specs.Prelude.{slice_index_or, option_and_then, is_some, ◌==◌}
use Rattle.std.specs.Option.{option_map}
use Rattle.std.proofs.lemmas.List.{get_or_append_left}
use Rattle.std.proofs.lemmas.Option.{slice_get_within}
use Rattle.std.proofs.Math.Seq.{get_or-append_seam}
use Rattle.form_formula.proofs.Placement.{slice_get_front, slice_get_last, slice_get_pushed}
use Rattle.form_formula.specs.declared.structure.Range.{Range}
use Rattle.form_formula.specs.declared.structure.Range.TheVariants as kinds
use Rattle.form_formula.specs.declared.structure.Signature.{Signature}
use Rattle.form_formula.specs.declared.structure.SVal.{SVal}
use Rattle.form_formula.specs.declared.structure.Structure.{Structure}
use Rattle.form_formula.specs.Trees.{Term, Formula, yes, no, equal, less, has, flag, present, negation, both, either, exists, forall}
use Rattle.form_formula.specs.NormalForm.{IsAtom}
use Rattle.form_formula.specs.Over.{HasRange, IsOver, AreComparable}
use Rattle.form_formula.specs.Truth.{truth, relates, value_of, element_of, entry_at, both_pass, are_equal, is_true_value}
use Rattle.form_terms.specs.GroundTerms.{and_last, GroundTerm, GroundTerms, no_terms, term_and, sort_of}
use Rattle.form_terms.specs.Parts.{Part, atom_term, parts, parts_of}
use Rattle.form_terms.specs.Universe.{IsClosedSet, HaveSorts, HasEach, sorts_of, terms_in, functions_in, is_needed_after}
use Rattle.form_terms.specs.Structures.{IsStructure}
use Rattle.form_terms.specs.Passing.{Choice, IsChoice, element_named, elements_named}
use Rattle.form_terms.specs.Cut.{moved_value, cut}
use Rattle.form_terms.proofs.Lists.{Contains-head, Contains-tail, flat_map-Contains}
use Rattle.form_terms.proofs.Kept.{list_any-from, nat_same}
use Rattle.form_terms.proofs.CutFacts.{same_place, cut_relates}
use Rattle.form_terms.proofs.CutValues.{IsCarried, AreCarried, IsScope, carried_kept, entries, values}

pub and_last-sorts : (g : Signature) (ts : GroundTerms) (sorts : List ℕ) (t : GroundTerm) (sort : ℕ)
    → HaveSorts g ts sorts → sort_of g t ≡ Some sort → HaveSorts g (and_last ts t) (sorts ++ sort ∷ [])
and_last-sorts g no_terms [] t sort h e = (e, tt)
and_last-sorts g no_terms (s ∷ sorts) t sort h e = absurd h
and_last-sorts g (term_and u us) [] t sort h e = absurd h
and_last-sorts g (term_and u us) (s ∷ sorts) t sort h e = (h.0, and_last-sorts g us sorts t sort h.1 e)

pub and_last-each : (P : GroundTerm → Type 0) (ts : GroundTerms) (t : GroundTerm) → HasEach P ts → P t → HasEach P (and_last ts t)
and_last-each P no_terms t h p = (p, tt)
and_last-each P (term_and u us) t h p = (h.0, and_last-each P us t h.1 p)

elements_more : (o : Option ℕ) (xs ys : Option (List ℕ)) (x : ℕ) (zs : List ℕ)
    → ((ws : List ℕ) → xs ≡ Some ws → ys ≡ Some (ws ++ x ∷ []))
    → option_and_then (λ y. option_map (λ ys. y ∷ ys) xs) o ≡ Some zs → option_and_then (λ y. option_map (λ ys. y ∷ ys) ys) o ≡ Some (zs ++ x ∷ [])
elements_more None xs ys x zs h e = cc
elements_more (Some y) None ys x zs h e = cc
elements_more (Some y) (Some ws) ys x zs h e =
    let later : ys ≡ Some (ws ++ x ∷ []) = h ws refl in
    let same : y ∷ ws ≡ zs = cc in
    ap (option_map (λ ys. y ∷ ys)) later ∙ ap (λ zs. Some (zs ++ x ∷ [])) same

pub and_last-elements : (s : Structure) (c : Choice) (ts : GroundTerms) (xs : List ℕ) (t : GroundTerm) (x : ℕ)
    → elements_named s c ts ≡ Some xs → element_named s c t ≡ Some x → elements_named s c (and_last ts t) ≡ Some (xs ++ x ∷ [])
and_last-elements s c no_terms xs t x h e =
    let same : [] ≡ xs = cc in
    ap (option_and_then (λ y. option_map (λ ys. y ∷ ys) (Some []))) e ∙ ap (λ zs. Some (zs ++ x ∷ [])) same
and_last-elements s c (term_and u us) xs t x h e =
    elements_more (element_named s c u) (elements_named s c us) (elements_named s c (and_last us t)) x xs (λ ws h. and_last-elements s c us ws t x h e) h

-- a sort stays needed
pub needed_after : (g : Signature) (f : Formula) (n sort : ℕ) → Contains (sorts_of g f) sort → is_needed_after g f n sort ≡ true
needed_after g f zero sort there = list_any-from (λ s. s == sort) (sorts_of g f) sort there (nat_same sort)
needed_after g f (suc n) sort there = let before = needed_after g f n sort there in cc

module _ (g : Signature) (f : Formula) (s : Structure) (c : Choice) (terms : List GroundTerm)
    (over : IsStructure g s) (closed : IsClosedSet g f (Contains terms)) (fits : IsChoice g s f c) where
  abbrev Carries : Range → Option SVal → Option SVal → Type 0
  Carries = AreCarried g f s c terms over closed

  abbrev pub Carried : ℕ → ℕ → ℕ → Type 0
  Carried = IsCarried g f s c terms over closed

  abbrev pub Scope : List ℕ → List ℕ → List ℕ → List (Option GroundTerm) → Type 0
  Scope = IsScope g f s c terms over closed

  abbrev pub new : Structure
  new = cut g s c terms

  same_elements : (sort x i y j : ℕ) → Carried sort x i → Carried sort y j → (i == j) ≡ (x == y)
  same_elements sort x i y j a b =
      let h = same_place g s c terms over sort x y a.within (carried_kept g f s c terms over closed sort x i a)
      b.within (carried_kept g f s c terms over closed sort y j b) in
      let p = a.place in let q = b.place in cc

  equal_carried : (range : Range) (v w v' w' : Option SVal) → AreComparable range → Carries range v v' → Carries range w w'
      → both_pass are_equal v' w' ≡ both_pass are_equal v w
  equal_carried (kinds.Rec sort) v w v' w' h (inl (a, b)) q = cc
  equal_carried (kinds.Rec sort) v w v' w' h (inr (x, i, a, b, d)) (inl (a', b')) = cc
  equal_carried (kinds.Rec sort) v w v' w' h (inr (x, i, a, b, d)) (inr (y, j, a', b', d')) =
      let same = same_elements sort x i y j d d' in
      let left : both_pass are_equal v' w' ≡ (i == j) = cc in
      let right : both_pass are_equal v w ≡ (x == y) = cc in left ∙ (same ∙ sym right)
  equal_carried kinds.Flag v w v' w' h p q = absurd h
  equal_carried kinds.Num v w v' w' h p q = cc
  equal_carried kinds.Str v w v' w' h p q = cc

  -- an element at a term is the same before and after
  element_carried : (sort : ℕ) (v w : Option SVal) → Carries (kinds.Rec sort) v w
      → ((option_and_then element_of v ≡ None) × (option_and_then element_of w ≡ None))
      ⊎ ((x : ℕ) × (i : ℕ) × (option_and_then element_of v ≡ Some x) × (option_and_then element_of w ≡ Some i) × Carried sort x i)
  element_carried sort v w (inl (a, b)) = inl (ap (option_and_then element_of) a, ap (option_and_then element_of) b)
  element_carried sort v w (inr (x, i, a, b, d)) = inr (x, i, ap (option_and_then element_of) a, ap (option_and_then element_of) b, d)

  related_carried : (r : ℕ) (from to : ℕ) (v w v' w' : Option SVal)
      → ((x i y j : ℕ) → Carried from x i → Carried to y j → relates new r i j ≡ relates s r x y)
      → Carries (kinds.Rec from) v v' → Carries (kinds.Rec to) w w'
      → both_pass (relates new r) (option_and_then element_of v') (option_and_then element_of w')
      ≡ both_pass (relates s r) (option_and_then element_of v) (option_and_then element_of w)
  related_carried r from to v w v' w' same p q =
      elim (element_carried from v v' p) [
        | inl none ↦ let a = none.0 in let b = none.1 in cc
        | inr left ↦
            elim (element_carried to w w' q) [
              | inl none ↦ let a = none.0 in let b = none.1 in let d = left.2 in let e = left.3 in cc
              | inr right ↦
                  let whole = same left.0 left.1 right.0 right.1 left.4 right.4 in
                  let a = left.2 in let b = left.3 in let d = right.2 in let e = right.3 in cc
            ]
      ]

  present_moved : (to : Range) (o : Option SVal) → is_some (option_map (moved_value g s c terms to) o) ≡ is_some o
  present_moved to None = refl
  present_moved to (Some v) = refl

  flag_moved : (to : Range) (o : Option SVal) → to ≡ kinds.Flag → is_true_value (option_map (moved_value g s c terms to) o) ≡ is_true_value o
  flag_moved (kinds.Rec sort) o e = cc
  flag_moved kinds.Flag None e = refl
  flag_moved kinds.Flag (Some v) e = refl
  flag_moved kinds.Num o e = cc
  flag_moved kinds.Str o e = cc

  -- all parts of a formula are parts of the whole
  abbrev pub IsPart : ℕ → List (Option GroundTerm) → List ℕ → Formula → Type 0
  IsPart number names above a = (p : Part) → Contains (parts number names above a) p → Contains (parts_of f) p

  module _ (scope env moved_env : List ℕ) (names : List (Option GroundTerm)) (at : Scope scope env moved_env names) where
    -- the value of a term of the formula
    value_carried : (t : Term) (range : Range) → HasRange g scope t range → Contains (parts_of f) (atom_term names t)
        → Carries range (value_of s env t) (value_of new moved_env t)
    value_carried t range h there =
        values g f s c terms over closed scope env moved_env names at t range h
        (λ u here. flat_map-Contains (terms_in g) (parts_of f) (atom_term names t) u there here)
        (λ k here. flat_map-Contains (functions_in g) (parts_of f) (atom_term names t) k there here)

    -- an atom is as true as before
    pub atom_carried : (a : Formula) (number : ℕ) (above : List ℕ) → IsAtom a → IsOver g scope a → IsPart number names above a
        → truth new moved_env a ≡ truth s env a
    atom_carried yes number above atom h inside = absurd atom
    atom_carried no number above atom h inside = absurd atom
    atom_carried (equal t u) number above atom (range, alike, p, q) inside =
        equal_carried range (value_of s env t) (value_of s env u) (value_of new moved_env t) (value_of new moved_env u) alike
        (value_carried t range p (inside (atom_term names t) (Contains-head (atom_term names t) (atom_term names u ∷ []))))
        (value_carried u range q (inside (atom_term names u) (Contains-tail (atom_term names t) (atom_term names u ∷ []) (atom_term names u) (Contains-head (atom_term names u) []))))
    atom_carried (less t u) number above atom (p, q) inside =
        let left = value_carried t kinds.Num p (inside (atom_term names t) (Contains-head (atom_term names t) (atom_term names u ∷ []))) in
        let right = value_carried u kinds.Num q
        (inside (atom_term names u) (Contains-tail (atom_term names t) (atom_term names u ∷ []) (atom_term names u) (Contains-head (atom_term names u) []))) in
        cc
    atom_carried (has r t u) number above atom (sig, there, p, q) inside =
        related_carried r sig.from sig.to (value_of s env t) (value_of s env u) (value_of new moved_env t) (value_of new moved_env u)
        (λ x i y j a b.
        let whole = cut_relates g s c terms over r sig x y there a.within (carried_kept g f s c terms over closed sig.from x i a)
        b.within (carried_kept g f s c terms over closed sig.to y j b) in
        let m = a.place in let n = b.place in cc)
        (value_carried t (kinds.Rec sig.from) p (inside (atom_term names t) (Contains-head (atom_term names t) (atom_term names u ∷ []))))
        (value_carried u (kinds.Rec sig.to) q
        (inside (atom_term names u) (Contains-tail (atom_term names t) (atom_term names u ∷ []) (atom_term names u) (Contains-head (atom_term names u) []))))
    atom_carried (flag k t) number above atom (sig, there, p, to) inside =
        let value = value_carried t (kinds.Rec sig.from) p (inside (atom_term names t) (Contains-head (atom_term names t) [])) in
        ap is_true_value (entries g f s c terms over closed scope env moved_env names at k sig t there value) ∙ flag_moved sig.to (entry_at s env k t) to
    atom_carried (present k t) number above atom (sig, there, p) inside =
        let value = value_carried t (kinds.Rec sig.from) p (inside (atom_term names t) (Contains-head (atom_term names t) [])) in
        ap is_some (entries g f s c terms over closed scope env moved_env names at k sig t there value) ∙ present_moved sig.to (entry_at s env k t)
    atom_carried (negation a) number above atom h inside = absurd atom
    atom_carried (both a b) number above atom h inside = absurd atom
    atom_carried (either a b) number above atom h inside = absurd atom
    atom_carried (exists sort a) number above atom h inside = absurd atom
    atom_carried (forall sort a) number above atom h inside = absurd atom

    -- one more variable
    pub scope_more : (sort x i : ℕ) (name : Option GroundTerm) → Carried sort x i
        → ((t : GroundTerm) → name ≡ Some t → (element_named s c t ≡ Some x) × (sort_of g t ≡ Some sort))
        → Scope (scope ++ sort ∷ []) (env ++ x ∷ []) (moved_env ++ i ∷ []) (names ++ name ∷ [])
    scope_more sort x i name carried named = record {
      env_length = omega (arith, length-append env (x ∷ []), length-append scope (sort ∷ []), at.env_length);
      moved_length = omega (arith, length-append moved_env (i ∷ []), length-append scope (sort ∷ []), at.moved_length);
      names_length = omega (arith, length-append names (name ∷ []), length-append scope (sort ∷ []), at.names_length);
      carried = λ depth sort' e. elim (slice_get_pushed scope sort depth sort' e) [
        | inl e ↦
            let old = at.carried depth sort' e in
            let within : depth < length names = omega (arith, slice_get_within scope depth sort' e, at.names_length) in (
              old.0,
              old.1,
              slice_get_front env (x ∷ []) depth old.0 old.2,
              slice_get_front moved_env (i ∷ []) depth old.1 old.3,
              old.4,
              λ t e. old.5 t (sym (get_or_append_left names (name ∷ []) None depth within) ∙ e),
            )
        | inr (d, same) ↦
            let depth_env : length env ≡ depth = omega (arith, d, at.env_length) in
            let depth_moved : length moved_env ≡ depth = omega (arith, d, at.moved_length) in
            let depth_names : length names ≡ depth = omega (arith, d, at.names_length) in
            let P : ℕ → Type 0 = λ n. slice_get (env ++ x ∷ []) n ≡ Some x in
            let Q : ℕ → Type 0 = λ n. slice_get (moved_env ++ i ∷ []) n ≡ Some i in
            let R : ℕ → Type 0 = λ n. Carried n x i in (
              x,
              i,
              subst P depth_env (slice_get_last env x),
              subst Q depth_moved (slice_get_last moved_env i),
              subst R same carried,
              λ t e.
                  let last : slice_index_or (names ++ name ∷ []) depth None ≡ name =
                  ap (λ n. slice_index_or (names ++ name ∷ []) n None) (sym depth_names) ∙ get_or-append_seam names name [] None in
                  let own = named t (sym last ∙ e) in
                  (own.0, own.1 ∙ ap (λ n. Some n) same),
            )
      ];
    }
