-- The record terms of a formula: what they are made of.
use Rattle.std.proofs.Common.{◌≡◌, ℕ, zero, suc, ◌<◌, ◌⊎◌, inl, inr, Bool, true, false, not, ◌&&◌, sym, ◌∙◌, List, [], ◌∷◌, Some, None, Option, cond, ap, subst, Contains}
use Rattle.std.specs.Prelude.{slice_index_or, option_and_then, ◌==◌}
use Rattle.std.specs.List.{list_any}
use Rattle.std.specs.Option.{option_to_list}
use Rattle.std.proofs.lemmas.Bool.{and_parts, eqb-true}
use Rattle.std.proofs.lemmas.List.Elements.{Contains-append_cases, Contains-append_left, Contains-append_right}
use Rattle.form_formula.specs.declared.structure.Range.{Range}
use Rattle.form_formula.specs.declared.structure.Range.TheVariants as kinds
use Rattle.form_formula.specs.declared.structure.Signature.{Signature}
use Rattle.form_formula.specs.Trees.{Term, Formula, bound, num, str, app}
use Rattle.form_formula.specs.Over.{HasRange, IsOver}
use Rattle.form_terms.specs.GroundTerms.{GroundTerm, field, sort_of, source_of, target_of, record_sort, is_number}
use Rattle.form_terms.specs.Parts.{Part, existential, universal, atom_term, parts_of, ground_term, is_dependent, record_terms, applied_in, if_element, sorts_in}
use Rattle.form_terms.specs.Universe.{terms_of, terms_in, functions_of, functions_in, sorts_of, sorts_of_part, is_needed_after, leads_to}
use Rattle.form_terms.specs.Listing.{own_names}
use Rattle.form_terms.proofs.Lists.{Contains-cons_cases, Contains-none, Contains-flat_map, flat_map-Contains, either_true}
use Rattle.form_terms.proofs.Kept.{list_any-some}
use Rattle.form_terms.proofs.CutFacts.{number_is}
use Rattle.form_terms.proofs.CutValues.{map_some}
use Rattle.form_terms.proofs.Typed.{AreNames, IsTyped, all_typed, from_option, to_option, in_element, to_element, target_at, target_below, listed_below}

module _ (g : Signature) (f : Formula) where
  -- a ground term is the name of a variable, or a function at a ground term among some others
  abbrev pub IsMade : List GroundTerm → GroundTerm → Type 0
  IsMade others u =
      Contains (own_names g f) u
      ⊎ ((h : ℕ) × (w : GroundTerm) × (u ≡ field h w) × (source_of g h ≡ sort_of g w) × Contains others w × ((to : ℕ) × (target_of g h ≡ Some to)))

  module _ (scope : List ℕ) (names : List (Option GroundTerm)) (at : AreNames g f scope names) where
    ground_sort : (t : Term) (sort : ℕ) (u : GroundTerm) → HasRange g scope t (kinds.Rec sort) → ground_term names t ≡ Some u → sort_of g u ≡ Some sort
    ground_sort (bound sort' depth) sort u (there, e) name =
        let same : sort' ≡ sort = cc in (at.named depth sort' there u name).0 ∙ ap (λ n. Some n) same
    ground_sort (num n) sort u h name = cc
    ground_sort (str t) sort u h name = cc
    ground_sort (app k t) sort u (sig, there, inner, e) name =
        let part = map_some (field k) (ground_term names t) u name in
        ap (sort_of g) (sym part.2) ∙ target_at g k sig sort there (sym e)

    ground_recorded : (t : Term) (sort : ℕ) (u : GroundTerm) → HasRange g scope t (kinds.Rec sort) → ground_term names t ≡ Some u → Contains (record_terms g names t) u
    ground_recorded (bound sort' depth) sort u h name = to_option (slice_index_or names depth None) u name
    ground_recorded (num n) sort u h name = cc
    ground_recorded (str t) sort u h name = cc
    ground_recorded (app k t) sort u (sig, there, inner, e) name =
        Contains-append_left (if_element g k (option_to_list (ground_term names (app k t)))) (record_terms g names t) u
        (to_element g k sort (option_to_list (ground_term names (app k t))) u (target_at g k sig sort there (sym e)) (to_option (ground_term names (app k t)) u name))

    made : (t : Term) (range : Range) (u : GroundTerm) → HasRange g scope t range → Contains (record_terms g names t) u → IsMade (record_terms g names t) u
    made (bound sort depth) range u (there, e) c = inl (at.named depth sort there u (from_option (slice_index_or names depth None) u c)).1
    made (num n) range u h c = Contains-none u c
    made (str t) range u h c = Contains-none u c
    made (app k t) range u (sig, there, inner, e) c =
        let first : List GroundTerm = if_element g k (option_to_list (ground_term names (app k t))) in
        elim (Contains-append_cases first (record_terms g names t) u c) [
          | inl here ↦
              let own = in_element g k (option_to_list (ground_term names (app k t))) u here in
              let part = map_some (field k) (ground_term names t) u (from_option (ground_term names (app k t)) u own.2) in
              let source : source_of g k ≡ sort_of g part.0 =
              ap (option_and_then (λ sig. Some sig.from)) there ∙ sym (ground_sort t sig.from part.0 inner part.1) in
              inr (k, part.0, sym part.2, source, Contains-append_right first (record_terms g names t) part.0 (ground_recorded t sig.from part.0 inner part.1), (own.0, own.1))
          | inr later ↦
              elim (made t (kinds.Rec sig.from) u inner later) [
                | inl own ↦ inl own
                | inr (h, w, e, source, among, target) ↦ inr (h, w, e, source, Contains-append_right first (record_terms g names t) w among, target)
              ]
        ]

    sorts_below : (t : Term) (range : Range) (sort : ℕ) → HasRange g scope t range → Contains (sorts_in g t) sort → sort < g.sorts
    sorts_below (bound sort' depth) range sort (there, e) c =
        elim (Contains-cons_cases sort' [] sort c) [
          | inl same ↦ let P : ℕ → Type 0 = λ n. n < g.sorts in subst P same (at.below depth sort' there)
          | inr none ↦ Contains-none sort none
        ]
    sorts_below (num n) range sort h c = Contains-none sort c
    sorts_below (str t) range sort h c = Contains-none sort c
    sorts_below (app k t) range sort (sig, there, inner, e) c =
        elim (Contains-append_cases (option_to_list (target_of g k)) (sorts_in g t) sort c) [
          | inl here ↦ target_below g k sort (from_option (target_of g k) sort here)
          | inr later ↦ sorts_below t (kinds.Rec sig.from) sort inner later
        ]

  -- the record terms of a formula over the signature
  pub terms_made : IsOver g [] f → (u : GroundTerm) → Contains (terms_of g f) u → IsMade (terms_of g f) u
  terms_made h u c =
      let found = Contains-flat_map (terms_in g) (parts_of f) u c in
      own found.0 found.1 found.2 (all_typed g f h found.0 found.1)
    where
      own : (p : Part) → Contains (parts_of f) p → Contains (terms_in g p) u → IsTyped g f p → IsMade (terms_of g f) u
      own (existential v) there here fits = Contains-none u here
      own (universal sort) there here fits = Contains-none u here
      own (atom_term names t) there here (scope, range, h, at) =
          elim (made scope names at t range u h here) [
            | inl name ↦ inl name
            | inr (k, w, e, source, among, target) ↦ inr (k, w, e, source, flat_map-Contains (terms_in g) (parts_of f) (atom_term names t) w there among, target)
          ]

  named_below : IsOver g [] f → (sort : ℕ) → Contains (sorts_of g f) sort → sort < g.sorts
  named_below h sort c =
      let found = Contains-flat_map (sorts_of_part g) (parts_of f) sort c in
      own found.0 found.2 (all_typed g f h found.0 found.1)
    where
      only : (s : ℕ) → Contains (s ∷ []) sort → s < g.sorts → sort < g.sorts
      only s c under =
          elim (Contains-cons_cases s [] sort c) [
            | inl e ↦ let P : ℕ → Type 0 = λ n. n < g.sorts in subst P e under
            | inr none ↦ Contains-none sort none
          ]

      own : (p : Part) → Contains (sorts_of_part g p) sort → IsTyped g f p → sort < g.sorts
      own (existential v) here fits = only v.sort here fits.0
      own (universal s) here fits = only s here fits
      own (atom_term names t) here (scope, range, h, at) = sorts_below scope names at t range sort h here

  -- needed sorts are there
  pub needed_below : IsOver g [] f → (n sort : ℕ) → is_needed_after g f n sort ≡ true → sort < g.sorts
  needed_below h zero sort e =
      let found = list_any-some (λ s. s == sort) (sorts_of g f) e in
      let same : found.0 ≡ sort = eqb-true found.0 sort found.2 in
      let P : ℕ → Type 0 = λ n. n < g.sorts in
      subst P same (named_below h found.0 found.1)
  needed_below h (suc n) sort e =
      elim (either_true (is_needed_after g f n sort) (list_any (λ sig. leads_to sort sig && is_needed_after g f n sig.from) g.funs) e) [
        | inl before ↦ needed_below h n sort before
        | inr step ↦
            let found = list_any-some (λ sig. leads_to sort sig && is_needed_after g f n sig.from) g.funs step in
            let both = and_parts (leads_to sort found.0) (is_needed_after g f n found.0.from) found.2 in
            let leads = and_parts (not found.0.partial) (is_number (record_sort found.0.to) sort) both.0 in
            listed_below g found.0 sort found.1 (number_is (record_sort found.0.to) sort leads.1)
      ]

  -- a function that is applied gives elements
  pub functions_there : (h : ℕ) → Contains (functions_of g f) h → (to : ℕ) × (target_of g h ≡ Some to)
  functions_there h c =
      let found = Contains-flat_map (functions_in g) (parts_of f) h c in
      own found.0 found.2
    where
      inner : (names : List (Option GroundTerm)) (t : Term) → Contains (applied_in g names t) h → (to : ℕ) × (target_of g h ≡ Some to)
      inner names (bound sort depth) c = Contains-none h c
      inner names (num n) c = Contains-none h c
      inner names (str t) c = Contains-none h c
      inner names (app k t) c =
          elim (Contains-append_cases (if_element g k (cond (is_dependent names t) (k ∷ []) [])) (applied_in g names t) h c) [
            | inl here ↦
                let own = in_element g k (cond (is_dependent names t) (k ∷ []) []) h here in
                let same : k ≡ h = only k (is_dependent names t) own.2 in
                (own.0, ap (target_of g) (sym same) ∙ own.1)
            | inr later ↦ inner names t later
          ]
        where
          only : (k : ℕ) (b : Bool) → Contains (cond b (k ∷ []) []) h → k ≡ h
          only k true c = elim (Contains-cons_cases k [] h c) [ inl e ↦ e | inr none ↦ Contains-none h none ]
          only k false c = Contains-none h c

      own : (p : Part) → Contains (functions_in g p) h → (to : ℕ) × (target_of g h ≡ Some to)
      own (existential v) here = Contains-none h here
      own (universal s) here = Contains-none h here
      own (atom_term names t) here = inner names t here
