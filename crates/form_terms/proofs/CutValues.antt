-- The values of terms in a structure that is cut down.
use Rattle.std.proofs.Common.{◌≡◌, ℕ, ◌<◌, ◌⊎◌, inl, inr, Bool, true, false, refl, sym, ◌∙◌, List, [], ◌∷◌, Some, None, Option, length, cond, ap, subst, slice_get, Contains}
use Rattle.std.specs.Prelude.{slice_index_or, option_and_then, is_none}
use Rattle.std.specs.Option.{option_map, option_to_list}
use Rattle.std.proofs.lemmas.List.Elements.{Contains-append_left, Contains-append_right}
use Rattle.form_formula.specs.declared.structure.Range.{Range}
use Rattle.form_formula.specs.declared.structure.Range.TheVariants as kinds
use Rattle.form_formula.specs.declared.structure.FunSig.{FunSig}
use Rattle.form_formula.specs.declared.structure.Signature.{Signature}
use Rattle.form_formula.specs.declared.structure.SVal.{SVal}
use Rattle.form_formula.specs.declared.structure.SVal.TheVariants.{Rec, Flag, Num, Str}
use Rattle.form_formula.specs.declared.structure.Structure.{Structure}
use Rattle.form_formula.specs.Trees.{Term, Formula, bound, num, str, app}
use Rattle.form_formula.specs.Over.{IsFunction, HasRange}
use Rattle.form_formula.specs.Truth.{entry, value_of, element_of, element_at, entry_at}
use Rattle.form_terms.specs.GroundTerms.{GroundTerm, field, sort_of, source_of, target_of, record_sort}
use Rattle.form_terms.specs.Parts.{ground_term, is_dependent, record_terms, applied_in, if_element}
use Rattle.form_terms.specs.Universe.{IsClosedSet, terms_of, functions_of}
use Rattle.form_terms.specs.Structures.{IsStructure, IsValueOf, IsEntryOf, size_of}
use Rattle.form_terms.specs.Passing.{Choice, element_named, IsNamed}
use Rattle.form_terms.specs.Cut.{is_kept, kept, place_of, moved, moved_value, cut}
use Rattle.form_terms.proofs.Lists.{Contains-head, cond_true}
use Rattle.form_terms.proofs.CutFacts.{named_kept, stands, cut_entry}

pub map_some : {A B : Type 0} (h : A → B) (o : Option A) (y : B) → option_map h o ≡ Some y → (x : A) × (o ≡ Some x) × (h x ≡ y)
map_some h None y e = cc
map_some h (Some x) y e = (x, refl, cc)

pub some_there : {A : Type 0} (o : Option A) → is_none o ≡ false → (x : A) × (o ≡ Some x)
some_there None e = cc
some_there (Some x) e = (x, refl)

module _ (g : Signature) (f : Formula) (s : Structure) (c : Choice) (terms : List GroundTerm)
    (over : IsStructure g s) (closed : IsClosedSet g f (Contains terms)) where
  abbrev pub Named : ℕ → ℕ → Type 0
  Named sort x = IsNamed g s c (Contains terms) sort x

  -- an element that a term names, and its new number
  pub record IsCarried (sort x i : ℕ) : Type 0 where
    pub named : Named sort x
    pub within : x < size_of s sort
    pub place : place_of g s c terms sort x ≡ i

  pub carried_kept : (sort x i : ℕ) → IsCarried sort x i → is_kept g s c terms sort x ≡ true
  carried_kept sort x i h = named_kept g s c terms over sort x h.named

  pub carried_stands : (sort x i : ℕ) → IsCarried sort x i → slice_get (kept g s c terms sort) i ≡ Some x
  carried_stands sort x i h =
      let Q : ℕ → Type 0 = λ i. slice_get (kept g s c terms sort) i ≡ Some x in
      subst Q h.place (stands g s c terms over sort x h.within (carried_kept sort x i h))

  -- two values of a range, before and after
  abbrev pub AreCarried : Range → Option SVal → Option SVal → Type 0
  AreCarried (kinds.Rec sort) v w =
      ((v ≡ None) × (w ≡ None)) ⊎ ((x : ℕ) × (i : ℕ) × (v ≡ Some (Rec x)) × (w ≡ Some (Rec i)) × IsCarried sort x i)
  AreCarried kinds.Flag v w = w ≡ v
  AreCarried kinds.Num v w = w ≡ v
  AreCarried kinds.Str v w = w ≡ v

  -- what a function has, where the element that it has is named
  entry_carried : (to : Range) (v : SVal) → IsValueOf s to v → ((sort x : ℕ) → to ≡ kinds.Rec sort → v ≡ Rec x → Named sort x)
      → AreCarried to (Some v) (Some (moved_value g s c terms to v))
  entry_carried (kinds.Rec sort) (Rec x) h name =
      let named : Named sort x = name sort x refl refl in
      let e : moved g s c terms sort x ≡ place_of g s c terms sort x =
      cond_true (is_kept g s c terms sort x) _ _ (named_kept g s c terms over sort x named) in
      inr (x, place_of g s c terms sort x, refl, ap (λ i. Some (Rec i)) e, record { named = named; within = h; place = refl })
  entry_carried (kinds.Rec sort) (Flag b) h name = absurd h
  entry_carried (kinds.Rec sort) (Num n) h name = absurd h
  entry_carried (kinds.Rec sort) (Str t) h name = absurd h
  entry_carried kinds.Flag v h name = refl
  entry_carried kinds.Num v h name = refl
  entry_carried kinds.Str v h name = refl

  none_carried : (to : Range) → AreCarried to None None
  none_carried (kinds.Rec sort) = inl (refl, refl)
  none_carried kinds.Flag = refl
  none_carried kinds.Num = refl
  none_carried kinds.Str = refl

  -- what stands above a term: the sorts, the elements before and after, and the ground terms of the variables
  pub record IsScope (scope env moved_env : List ℕ) (names : List (Option GroundTerm)) : Type 0 where
    pub env_length : length env ≡ length scope
    pub moved_length : length moved_env ≡ length scope
    pub names_length : length names ≡ length scope
    pub carried : (depth sort : ℕ) → slice_get scope depth ≡ Some sort
        → (x : ℕ) × (i : ℕ) × (slice_get env depth ≡ Some x) × (slice_get moved_env depth ≡ Some i) × IsCarried sort x i
        × ((t : GroundTerm) → slice_index_or names depth None ≡ Some t → (element_named s c t ≡ Some x) × (sort_of g t ≡ Some sort))

  module _ (scope env moved_env : List ℕ) (names : List (Option GroundTerm)) (above : IsScope scope env moved_env names) where
    abbrev old_value : Term → Option SVal
    old_value t = value_of s env t

    abbrev new_value : Term → Option SVal
    new_value t = value_of (cut g s c terms) moved_env t

    -- what a function has at a term
    pub entries : (h : ℕ) (sig : FunSig) (t : Term) → IsFunction g h sig → AreCarried (kinds.Rec sig.from) (old_value t) (new_value t)
        → entry_at (cut g s c terms) moved_env h t ≡ option_map (moved_value g s c terms sig.to) (entry_at s env h t)
    entries h sig t there (inl none) =
        let p : entry_at s env h t ≡ None = ap (λ v. option_and_then (entry s h) (option_and_then element_of v)) none.0 in
        let q : entry_at (cut g s c terms) moved_env h t ≡ None = ap (λ v. option_and_then (entry (cut g s c terms) h) (option_and_then element_of v)) none.1 in
        q ∙ ap (option_map (moved_value g s c terms sig.to)) (sym p)
    entries h sig t there (inr (x, i, p, q, carried)) =
        let old : entry_at s env h t ≡ entry s h x = ap (λ v. option_and_then (entry s h) (option_and_then element_of v)) p in
        let new : entry_at (cut g s c terms) moved_env h t ≡ entry (cut g s c terms) h i =
        ap (λ v. option_and_then (entry (cut g s c terms) h) (option_and_then element_of v)) q in
        new ∙ (cut_entry g s c terms over h sig i x there (carried_stands sig.from x i carried) ∙ ap (option_map (moved_value g s c terms sig.to)) (sym old))

    -- the ground term of a term names its element
    ground_names : (t : Term) (range : Range) (u : GroundTerm) → HasRange g scope t range → ground_term names t ≡ Some u → element_named s c u ≡ element_at s env t
    ground_names (bound sort depth) range u h e =
        let here = above.carried depth sort h.0 in
        (here.5 u e).0 ∙ sym (ap (λ o. option_and_then element_of (option_map (λ x. Rec x) o)) here.2)
    ground_names (num n) range u h e = cc
    ground_names (str t) range u h e = cc
    ground_names (app k t) range u (sig, there, inner, e') e =
        let part = map_some (field k) (ground_term names t) u e in
        let inside = ground_names t (kinds.Rec sig.from) part.0 inner part.1 in
        ap (element_named s c) (sym part.2) ∙ ap (λ o. option_and_then element_of (option_and_then (entry s k) o)) inside

    -- and has its sort
    ground_sort : (t : Term) (sort : ℕ) (u : GroundTerm) → HasRange g scope t (kinds.Rec sort) → ground_term names t ≡ Some u → sort_of g u ≡ Some sort
    ground_sort (bound sort' depth) sort u h e =
        let here = above.carried depth sort' h.0 in
        let same : sort ≡ sort' = let w = h.1 in cc in
        (here.5 u e).1 ∙ ap (λ n. Some n) (sym same)
    ground_sort (num n) sort u h e = cc
    ground_sort (str t) sort u h e = cc
    ground_sort (app k t) sort u (sig, there, inner, e') e =
        let part = map_some (field k) (ground_term names t) u e in
        ap (sort_of g) (sym part.2) ∙ (ap (option_and_then (λ sig. record_sort sig.to)) there ∙ ap record_sort (sym e'))

    -- a term without a dependent variable has one
    ground_there : (t : Term) (sort : ℕ) → HasRange g scope t (kinds.Rec sort) → is_dependent names t ≡ false → (u : GroundTerm) × (ground_term names t ≡ Some u)
    ground_there (bound sort' depth) sort h e = some_there (slice_index_or names depth None) e
    ground_there (num n) sort h e = cc
    ground_there (str t) sort h e = cc
    ground_there (app k t) sort (sig, there, inner, e') e =
        let part = ground_there t sig.from inner e in (field k part.0, ap (option_map (field k)) part.1)

    -- what a function has at a term is named, if it is an element
    result_named : (k : ℕ) (sig : FunSig) (t : Term) (sort x i y : ℕ) → IsFunction g k sig → HasRange g scope t (kinds.Rec sig.from)
        → ((u : GroundTerm) → Contains (record_terms g names (app k t)) u → Contains (terms_of g f) u)
        → ((h : ℕ) → Contains (applied_in g names (app k t)) h → Contains (functions_of g f) h)
        → IsCarried sig.from x i → element_at s env t ≡ Some x → entry s k x ≡ Some (Rec y) → sig.to ≡ kinds.Rec sort → Named sort y
    result_named k sig t sort x i y there inner inside applied carried at e to = choose (is_dependent names t) refl
      where
        target : target_of g k ≡ Some sort
        target = ap (option_and_then (λ sig. record_sort sig.to)) there ∙ ap record_sort to

        names_result : (u : GroundTerm) → element_named s c u ≡ Some x → element_named s c (field k u) ≡ Some y
        names_result u named =
            ap (λ o. option_and_then element_of (option_and_then (entry s k) o)) named ∙ ap (option_and_then element_of) e

        whole : {A : Type 0} (xs : List A) → if_element g k xs ≡ xs
        whole xs = ap (λ o. cond (is_none o) [] xs) target

        choose : (b : Bool) → is_dependent names t ≡ b → Named sort y
        choose true dep =
            let own : Contains (if_element g k (cond (is_dependent names t) (k ∷ []) [])) k =
            let Q : List ℕ → Type 0 = λ xs. Contains xs k in
            subst Q (sym (whole (cond (is_dependent names t) (k ∷ []) []) ∙ cond_true (is_dependent names t) (k ∷ []) [] dep)) (Contains-head k []) in
            let used : Contains (functions_of g f) k = applied k (Contains-append_left _ (applied_in g names t) k own) in
            let u : GroundTerm = carried.named.0 in
            let source : source_of g k ≡ sort_of g u = ap (option_and_then (λ sig. Some sig.from)) there ∙ sym carried.named.2 in
            (field k u, closed.applied (field k u) (used, source, carried.named.1), target, names_result u carried.named.3)
        choose false dep =
            let ground = ground_there t sig.from inner dep in
            let u : GroundTerm = ground.0 in
            let list : option_to_list (ground_term names (app k t)) ≡ field k u ∷ [] = ap (λ o. option_to_list (option_map (field k) o)) ground.1 in
            let own : Contains (if_element g k (option_to_list (ground_term names (app k t)))) (field k u) =
            let Q : List GroundTerm → Type 0 = λ xs. Contains xs (field k u) in
            subst Q (sym (whole (option_to_list (ground_term names (app k t))) ∙ list)) (Contains-head (field k u) []) in
            let first : Contains (terms_of g f) (field k u) = inside (field k u) (Contains-append_left _ (record_terms g names t) (field k u) own) in
            let named : element_named s c u ≡ Some x = ground_names t (kinds.Rec sig.from) u inner ground.1 ∙ at in
            (field k u, closed.first (field k u) first, target, names_result u named)

    pub values : (t : Term) (range : Range) → HasRange g scope t range
        → ((u : GroundTerm) → Contains (record_terms g names t) u → Contains (terms_of g f) u)
        → ((h : ℕ) → Contains (applied_in g names t) h → Contains (functions_of g f) h)
        → AreCarried range (old_value t) (new_value t)
    values (bound sort depth) range (at, e) inside applied =
        let here = above.carried depth sort at in
        let Q : Range → Type 0 = λ r. AreCarried r (old_value (bound sort depth)) (new_value (bound sort depth)) in
        subst Q (sym e) (inr (here.0, here.1, ap (option_map (λ x. Rec x)) here.2, ap (option_map (λ x. Rec x)) here.3, here.4))
    values (num n) range e inside applied = let Q : Range → Type 0 = λ r. AreCarried r (Some (Num n)) (Some (Num n)) in subst Q (sym e) refl
    values (str t) range e inside applied = let Q : Range → Type 0 = λ r. AreCarried r (Some (Str t)) (Some (Str t)) in subst Q (sym e) refl
    values (app k t) range (sig, there, inner, e) inside applied =
        let part = values t (kinds.Rec sig.from) inner
        (λ u here. inside u (Contains-append_right (if_element g k (option_to_list (ground_term names (app k t)))) (record_terms g names t) u here))
        (λ h here. applied h (Contains-append_right (if_element g k (cond (is_dependent names t) (k ∷ []) [])) (applied_in g names t) h here)) in
        let Q : Range → Type 0 = λ r. AreCarried r (old_value (app k t)) (new_value (app k t)) in
        let move = entries k sig t there part in
        subst Q (sym e) (elim part [
          | inl none ↦
              let old : entry_at s env k t ≡ None = ap (λ v. option_and_then (entry s k) (option_and_then element_of v)) none.0 in
              result (entry_at s env k t) None old move (none_carried sig.to)
          | inr found ↦
              let at : element_at s env t ≡ Some found.0 = ap (option_and_then element_of) found.2 in
              let old : entry_at s env k t ≡ entry s k found.0 = ap (option_and_then (entry s k)) at in
              result (entry_at s env k t) (entry s k found.0) old move
              (at_element (entry s k found.0) (over.values k sig found.0 there found.4.within)
              (λ v sort y got to rec. result_named k sig t sort found.0 found.1 y there inner inside applied found.4 at (got ∙ ap (λ v. Some v) rec) to) refl)
        ])
      where
        result : (old v : Option SVal) → old ≡ v → new_value (app k t) ≡ option_map (moved_value g s c terms sig.to) old
            → AreCarried sig.to v (option_map (moved_value g s c terms sig.to) v) → AreCarried sig.to old (new_value (app k t))
        result old v same move h =
            let Q : Option SVal → Type 0 = λ w. AreCarried sig.to old w in
            let R : Option SVal → Type 0 = λ v. AreCarried sig.to v (option_map (moved_value g s c terms sig.to) v) in
            subst Q (sym move) (subst R (sym same) h)

        at_element : {o : Option SVal} (v : Option SVal) → IsEntryOf s sig v
            → ((w : SVal) (sort y : ℕ) → o ≡ Some w → sig.to ≡ kinds.Rec sort → w ≡ Rec y → Named sort y) → o ≡ v
            → AreCarried sig.to v (option_map (moved_value g s c terms sig.to) v)
        at_element None fits name same = none_carried sig.to
        at_element (Some w) fits name same = entry_carried sig.to w fits (λ sort y to rec. name w sort y same to rec)
