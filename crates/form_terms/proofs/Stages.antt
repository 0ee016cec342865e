-- The list of the terms that arise within so many rounds has just these.
use Rattle.std.proofs.Common.{◌≡◌, ℕ, zero, suc, inl, inr, Bool, true, false, not, refl, sym, ◌∙◌, List, [], ◌∷◌, ◌++◌, Some, None, Option, ap, subst, arith, Contains, map}
use Rattle.std.specs.Prelude.{◌==◌}
use Rattle.std.specs.List.{list_any, filter, range_with_len}
use Rattle.std.specs.Option.{option_to_list}
use Rattle.std.proofs.lemmas.Bool.{eqb-true}
use Rattle.std.proofs.lemmas.List.Elements.{Contains-append_cases, Contains-append_left, Contains-append_right}
use Rattle.form_formula.specs.declared.structure.Signature.{Signature}
use Rattle.form_formula.specs.Trees.{Formula}
use Rattle.form_formula.specs.Over.{IsOver}
use Rattle.form_terms.specs.GroundTerms.{GroundTerm, GroundTerms, constant, skolem, field, no_terms, term_and, sort_of, source_of, is_number}
use Rattle.form_terms.specs.Parts.{Variable, name_of}
use Rattle.form_terms.specs.Universe.{variables_of, terms_of, functions_of, is_needed, IsFirstTerm, IsAppliedTo, ArisesWithin, HaveSorts, HasEach}
use Rattle.form_terms.specs.Listing.{is_same_term, unique, of_sort, own_names, first_terms, functions, is_plain, is_skolem, skolem_variables, arguments, of_source, field_terms, skolem_terms, terms_after}
use Rattle.form_terms.proofs.Lists.{Contains-head, Contains-cons_cases, Contains-none, Contains-flat_map, flat_map-Contains, range-Contains}
use Rattle.form_terms.proofs.Kept.{list_any-some}
use Rattle.form_terms.proofs.CutFacts.{number_is, is_the_number}
use Rattle.form_terms.proofs.Listed.{same_term, from_unique, to_unique, to_filter, in_filter, to_map, in_map}
use Rattle.form_terms.proofs.Typed.{from_option, source_there}
use Rattle.form_terms.proofs.Recorded.{terms_made, needed_below, functions_there}

module _ (g : Signature) (f : Formula) (over : IsOver g [] f) where
  abbrev Own : Variable → List GroundTerm
  Own v = option_to_list (name_of v.number v.sort v.above)

  -- the name of a variable with no `forall` above it
  name_made : (v : Variable) (t : GroundTerm) → name_of v.number v.sort v.above ≡ Some t → (v.above ≡ []) × (t ≡ skolem v.number v.sort no_terms)
  name_made v t e = choose v.above refl e
    where
      choose : (above : List ℕ) → v.above ≡ above → name_of v.number v.sort above ≡ Some t → (above ≡ []) × (t ≡ skolem v.number v.sort no_terms)
      choose [] p e = (refl, cc)
      choose (s ∷ above) p e = cc

  own_first : (t : GroundTerm) → Contains (own_names g f) t → IsFirstTerm g f t
  own_first t c =
      let found = Contains-flat_map Own (variables_of g f) t c in
      let v : Variable = found.0 in
      let made = name_made v t (from_option (name_of v.number v.sort v.above) t found.2) in
      let P : GroundTerm → Type 0 = λ t. IsFirstTerm g f t in
      let Q : List ℕ → Type 0 = λ above. Contains (variables_of g f) (record { number = v.number; sort = v.sort; above = above }) in
      subst P (sym made.1) (refl, subst Q made.0 found.1)

  first_own : (number sort : ℕ) → Contains (variables_of g f) (record { number = number; sort = sort; above = [] }) → Contains (own_names g f) (skolem number sort no_terms)
  first_own number sort c =
      flat_map-Contains Own (variables_of g f) (record { number = number; sort = sort; above = [] }) (skolem number sort no_terms) c (Contains-head (skolem number sort no_terms) [])

  abbrev Constants : List GroundTerm
  Constants = map constant (filter (is_needed g f) (range_with_len 0 g.sorts))

  abbrev Others : List GroundTerm
  Others = own_names g f ++ terms_of g f

  other_listed : (t : GroundTerm) → Contains Others t → Contains (first_terms g f) t
  other_listed t c = Contains-append_right Constants (unique is_same_term Others) t (to_unique is_same_term same_term Others t c)

  pub first_listed : (t : GroundTerm) → IsFirstTerm g f t → Contains (first_terms g f) t
  first_listed (constant sort) h =
      let under = needed_below g f over g.sorts sort h in
      Contains-append_left Constants (unique is_same_term Others) (constant sort)
      (to_map constant (filter (is_needed g f) (range_with_len 0 g.sorts)) sort
      (to_filter (is_needed g f) (range_with_len 0 g.sorts) sort (range-Contains 0 g.sorts sort (omega arith) (omega (arith, under))) h))
  first_listed (skolem number sort ts) h =
      let P : GroundTerms → Type 0 = λ ts. Contains (first_terms g f) (skolem number sort ts) in
      subst P (sym h.0) (other_listed (skolem number sort no_terms) (Contains-append_left (own_names g f) (terms_of g f) (skolem number sort no_terms) (first_own number sort h.1)))
  first_listed (field k t) h = other_listed (field k t) (Contains-append_right (own_names g f) (terms_of g f) (field k t) h)

  pub other_first : (t : GroundTerm) → Contains Others t → IsFirstTerm g f t
  other_first t c =
      elim (Contains-append_cases (own_names g f) (terms_of g f) t c) [
        | inl own ↦ own_first t own
        | inr here ↦
            elim (terms_made g f over t here) [
              | inl own ↦ own_first t own
              | inr (k, w, e, source, among, target) ↦
                  let P : GroundTerm → Type 0 = λ t. Contains (terms_of g f) t in
                  let Q : GroundTerm → Type 0 = λ t. IsFirstTerm g f t in
                  let there : Contains (terms_of g f) (field k w) = subst P e here in
                  subst Q (sym e) there
            ]
      ]

  pub listed_first : (t : GroundTerm) → Contains (first_terms g f) t → IsFirstTerm g f t
  listed_first t c =
      elim (Contains-append_cases Constants (unique is_same_term Others) t c) [
        | inl here ↦
            let found = in_map constant (filter (is_needed g f) (range_with_len 0 g.sorts)) t here in
            let need = in_filter (is_needed g f) (range_with_len 0 g.sorts) found.0 found.1 in
            let Q : GroundTerm → Type 0 = λ t. IsFirstTerm g f t in
            subst Q found.2 need.1
        | inr here ↦ other_first t (from_unique is_same_term Others t here)
      ]

  first_arises : (n : ℕ) (t : GroundTerm) → IsFirstTerm g f t → ArisesWithin g f n t
  first_arises zero t h = h
  first_arises (suc n) t h = inl h

  -- choices of arguments
  pub to_arguments : (terms : List GroundTerm) (above : List ℕ) (ts : GroundTerms) → HaveSorts g ts above → HasEach (Contains terms) ts
      → Contains (arguments g f terms above) ts
  to_arguments terms [] no_terms h each = Contains-head no_terms []
  to_arguments terms [] (term_and t ts) h each = absurd h
  to_arguments terms (s ∷ above) no_terms h each = absurd h
  to_arguments terms (s ∷ above) (term_and t ts) h each =
      flat_map-Contains (λ t. map (term_and t) (arguments g f terms above)) (of_sort g f s terms) t (term_and t ts)
      (to_filter (λ t. is_number (sort_of g t) s) terms t each.0 (is_the_number (sort_of g t) s h.0))
      (to_map (term_and t) (arguments g f terms above) ts (to_arguments terms above ts h.1 each.1))

  pub in_arguments : (terms : List GroundTerm) (above : List ℕ) (ts : GroundTerms) → Contains (arguments g f terms above) ts → HaveSorts g ts above × HasEach (Contains terms) ts
  in_arguments terms [] ts c =
      elim (Contains-cons_cases no_terms [] ts c) [
        | inl e ↦ let P : GroundTerms → Type 0 = λ ts. HaveSorts g ts [] × HasEach (Contains terms) ts in subst P e (tt, tt)
        | inr none ↦ Contains-none ts none
      ]
  in_arguments terms (s ∷ above) ts c =
      let found = Contains-flat_map (λ t. map (term_and t) (arguments g f terms above)) (of_sort g f s terms) ts c in
      let t : GroundTerm = found.0 in
      let rest = in_map (term_and t) (arguments g f terms above) ts found.2 in
      let inner = in_arguments terms above rest.0 rest.1 in
      let here = in_filter (λ t. is_number (sort_of g t) s) terms t found.1 in
      let P : GroundTerms → Type 0 = λ ts. HaveSorts g ts (s ∷ above) × HasEach (Contains terms) ts in
      subst P rest.2 ((number_is (sort_of g t) s here.1, inner.0), (here.0, inner.1))

  each_mapped : (P Q : GroundTerm → Type 0) → ((t : GroundTerm) → P t → Q t) → (ts : GroundTerms) → HasEach P ts → HasEach Q ts
  each_mapped P Q h no_terms each = tt
  each_mapped P Q h (term_and t ts) each = (h t each.0, each_mapped P Q h ts each.1)

  pub applied_mapped : (P Q : GroundTerm → Type 0) → ((t : GroundTerm) → P t → Q t) → (t : GroundTerm) → IsAppliedTo g f P t → IsAppliedTo g f Q t
  applied_mapped P Q h (constant sort) a = absurd a
  applied_mapped P Q h (skolem number sort ts) (above, own, sorts, each) = (above, own, sorts, each_mapped P Q h ts each)
  applied_mapped P Q h (field k t) (used, source, there) = (used, source, h t there)

  abbrev pub Plain : List GroundTerm
  Plain = filter (is_plain g f) (first_terms g f)

  field_listed : (terms : List GroundTerm) (k : ℕ) (t : GroundTerm) → Contains (functions_of g f) k → source_of g k ≡ sort_of g t → Contains terms t
      → Contains (field_terms g f terms) (field k t)
  field_listed terms k t used source there =
      let target = functions_there g f k used in
      let from = source_there g k target.0 target.1 in
      let own : Contains (of_sort g f from.0 terms) t =
      to_filter (λ t. is_number (sort_of g t) from.0) terms t there (is_the_number (sort_of g t) from.0 (sym source ∙ from.1)) in
      let P : Option ℕ → Type 0 = λ o. Contains (of_source g f terms o) t in
      flat_map-Contains (λ k. map (field k) (of_source g f terms (source_of g k))) (functions g f) k (field k t)
      (to_unique (λ h k. h == k) (λ x y e. eqb-true x y e) (functions_of g f) k used)
      (to_map (field k) (of_source g f terms (source_of g k)) t (subst P (sym from.1) own))

  -- what is applied to listed terms is listed
  applied_listed : (terms : List GroundTerm) (t : GroundTerm) → IsAppliedTo g f (Contains terms) t → Contains (Plain ++ (field_terms g f terms ++ skolem_terms g f terms)) t
  applied_listed terms (constant sort) a = absurd a
  applied_listed terms (field k t) (used, source, there) =
      Contains-append_right Plain _ (field k t)
      (Contains-append_left (field_terms g f terms) (skolem_terms g f terms) (field k t) (field_listed terms k t used source there))
  applied_listed terms (skolem number sort ts) (above, own, sorts, each) = choose above ts own sorts each
    where
      choose : (above : List ℕ) (ts : GroundTerms) → Contains (variables_of g f) (record { number = number; sort = sort; above = above })
          → HaveSorts g ts above → HasEach (Contains terms) ts → Contains (Plain ++ (field_terms g f terms ++ skolem_terms g f terms)) (skolem number sort ts)
      choose [] no_terms own sorts each =
          Contains-append_left Plain _ (skolem number sort no_terms)
          (to_filter (is_plain g f) (first_terms g f) (skolem number sort no_terms) (first_listed (skolem number sort no_terms) (refl, own)) refl)
      choose [] (term_and t ts) own sorts each = absurd sorts
      choose (s ∷ above) ts own sorts each =
          let v : Variable = record { number = number; sort = sort; above = s ∷ above } in
          Contains-append_right Plain _ (skolem number sort ts)
          (Contains-append_right (field_terms g f terms) (skolem_terms g f terms) (skolem number sort ts)
          (flat_map-Contains (λ v. map (skolem v.number v.sort) (arguments g f terms v.above)) (skolem_variables g f) v (skolem number sort ts)
          (to_filter (λ v. is_skolem g f v.above) (variables_of g f) v own refl)
          (to_map (skolem number sort) (arguments g f terms (s ∷ above)) ts (to_arguments terms (s ∷ above) ts sorts each))))

  -- a name of a variable is no function at a term
  pub no_field : {A : Type 0} {k : ℕ} {t : GroundTerm} → Contains (own_names g f) (field k t) → A
  no_field {A} {k} {t} c =
      let found = Contains-flat_map Own (variables_of g f) (field k t) c in
      let made = name_made found.0 (field k t) (from_option (name_of found.0.number found.0.sort found.0.above) (field k t) found.2) in
      let e = made.1 in cc

  -- nor a constant, and a record term is none either
  pub no_constant : {A : Type 0} (sort : ℕ) → Contains (own_names g f ++ terms_of g f) (constant sort) → A
  no_constant sort c =
      elim (Contains-append_cases (own_names g f) (terms_of g f) (constant sort) c) [
        | inl own ↦ no_own own
        | inr here ↦ elim (terms_made g f over (constant sort) here) [ inl own ↦ no_own own | inr made ↦ let e = made.2 in cc ]
      ]
    where
      no_own : {A : Type 0} → Contains (own_names g f) (constant sort) → A
      no_own c =
          let found = Contains-flat_map Own (variables_of g f) (constant sort) c in
          let made = name_made found.0 (constant sort) (from_option (name_of found.0.number found.0.sort found.0.above) (constant sort) found.2) in
          let e = made.1 in cc

  -- what the two lists hold is applied to the terms
  added_applied : (terms : List GroundTerm) (t : GroundTerm) → Contains (field_terms g f terms ++ skolem_terms g f terms) t → IsAppliedTo g f (Contains terms) t
  added_applied terms t c =
      let P : GroundTerm → Type 0 = λ t. IsAppliedTo g f (Contains terms) t in
      elim (Contains-append_cases (field_terms g f terms) (skolem_terms g f terms) t c) [
        | inl here ↦
            let found = Contains-flat_map (λ k. map (field k) (of_source g f terms (source_of g k))) (functions g f) t here in
            let k : ℕ = found.0 in
            let part = in_map (field k) (of_source g f terms (source_of g k)) t found.2 in
            let used : Contains (functions_of g f) k = from_unique (λ h k. h == k) (functions_of g f) k found.1 in
            let own = in_source (source_of g k) terms part.0 part.1 in
            subst P part.2 (used, own.0, own.1)
        | inr here ↦
            let found = Contains-flat_map (λ v. map (skolem v.number v.sort) (arguments g f terms v.above)) (skolem_variables g f) t here in
            let v : Variable = found.0 in
            let part = in_map (skolem v.number v.sort) (arguments g f terms v.above) t found.2 in
            let inner = in_arguments terms v.above part.0 part.1 in
            let own = in_filter (λ v. is_skolem g f v.above) (variables_of g f) v found.1 in
            subst P part.2 (v.above, own.0, inner.0, inner.1)
      ]
    where
      in_source : (o : Option ℕ) (terms : List GroundTerm) (u : GroundTerm) → Contains (of_source g f terms o) u → (o ≡ sort_of g u) × Contains terms u
      in_source None terms u c = Contains-none u c
      in_source (Some sort) terms u c =
          let h = in_filter (λ t. is_number (sort_of g t) sort) terms u c in (sym (number_is (sort_of g u) sort h.1), h.0)

  -- and so are the first terms
  first_again : (terms : List GroundTerm) → ((t : GroundTerm) → IsFirstTerm g f t → Contains terms t) → (t : GroundTerm) → IsFirstTerm g f t
      → Contains (Plain ++ (field_terms g f terms ++ skolem_terms g f terms)) t
  first_again terms all (constant sort) h =
      Contains-append_left Plain _ (constant sort) (to_filter (is_plain g f) (first_terms g f) (constant sort) (first_listed (constant sort) h) refl)
  first_again terms all (skolem number sort ts) h =
      Contains-append_left Plain _ (skolem number sort ts) (to_filter (is_plain g f) (first_terms g f) (skolem number sort ts) (first_listed (skolem number sort ts) h) refl)
  first_again terms all (field k t) h = choose (list_any (λ j. j == k) (functions g f)) refl
    where
      choose : (b : Bool) → list_any (λ j. j == k) (functions g f) ≡ b → Contains (Plain ++ (field_terms g f terms ++ skolem_terms g f terms)) (field k t)
      choose false e =
          Contains-append_left Plain _ (field k t) (to_filter (is_plain g f) (first_terms g f) (field k t) (first_listed (field k t) h) (ap not e))
      choose true e =
          let found = list_any-some (λ j. j == k) (functions g f) e in
          let same : found.0 ≡ k = eqb-true found.0 k found.2 in
          let P : ℕ → Type 0 = λ k. Contains (functions_of g f) k in
          let used : Contains (functions_of g f) k = subst P same (from_unique (λ h k. h == k) (functions_of g f) found.0 found.1) in
          elim (terms_made g f over (field k t) h) [
            | inl own ↦ no_field own
            | inr (j, w, e, source, among, target) ↦
                let a : k ≡ j = cc in
                let b : t ≡ w = cc in
                let Q : ℕ → Type 0 = λ j. source_of g j ≡ sort_of g w in
                let R : GroundTerm → Type 0 = λ w. source_of g k ≡ sort_of g w in
                let S : GroundTerm → Type 0 = λ w. Contains terms w in
                let there : Contains terms w = all w (other_first w (Contains-append_right (own_names g f) (terms_of g f) w among)) in
                Contains-append_right Plain _ (field k t)
                (Contains-append_left (field_terms g f terms) (skolem_terms g f terms) (field k t)
                (field_listed terms k t used (subst R (sym b) (subst Q (sym a) source)) (subst S (sym b) there)))
          ]

  pub arises_listed : (n : ℕ) (t : GroundTerm) → ArisesWithin g f n t → Contains (terms_after g f n) t
  arises_listed zero t h = first_listed t h
  arises_listed (suc n) t (inl first) = first_again (terms_after g f n) (λ t h. arises_listed n t (first_arises n t h)) t first
  arises_listed (suc n) t (inr applied) = applied_listed (terms_after g f n) t (applied_mapped (ArisesWithin g f n) (Contains (terms_after g f n)) (arises_listed n) t applied)

  pub listed_arises : (n : ℕ) (t : GroundTerm) → Contains (terms_after g f n) t → ArisesWithin g f n t
  listed_arises zero t c = listed_first t c
  listed_arises (suc n) t c =
      let terms : List GroundTerm = terms_after g f n in
      elim (Contains-append_cases Plain (field_terms g f terms ++ skolem_terms g f terms) t c) [
        | inl here ↦ inl (listed_first t (in_filter (is_plain g f) (first_terms g f) t here).0)
        | inr added ↦ inr (applied_mapped (Contains terms) (ArisesWithin g f n) (listed_arises n) t (added_applied terms t added))
      ]
