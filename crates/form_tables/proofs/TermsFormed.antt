-- The terms that arise within so many rounds are formed of each other.
use Rattle.std.proofs.Common.{◌≡◌, ℕ, zero, suc, inl, inr, refl, sym, List, [], Some, None, Option, subst, slice_get, Contains}
use Rattle.std.specs.Prelude.{option_and_then}
use Rattle.form_formula.specs.declared.structure.FunSig.{FunSig}
use Rattle.form_formula.specs.declared.structure.Signature.{Signature}
use Rattle.form_formula.specs.Over.{IsOver}
use Rattle.form_formula.specs.Trees.{Formula}
use Rattle.form_terms.specs.GroundTerms.{GroundTerm, GroundTerms, constant, skolem, field, no_terms, term_and, sort_of, source_of, target_of, record_sort}
use Rattle.form_terms.specs.Universe.{IsFirstTerm, IsAppliedTo, ArisesWithin, IsHerbrandTerm, HasEach}
use Rattle.form_terms.specs.Listing.{Lists, own_names}
use Rattle.std.proofs.lemmas.List.Elements.{Contains-append_right}
use Rattle.form_terms.specs.Universe.{terms_of}
use Rattle.form_terms.proofs.Recorded.{terms_made, functions_there}
use Rattle.form_terms.proofs.Stages.{other_first, no_field}
use Rattle.form_terms.proofs.Stratified.{arises_later}
use Rattle.form_tables.specs.Vocabulary.{AreFormed, IsFormed, only}

module _ (g : Signature) (f : Formula) (over : IsOver g [] f) (terms : List GroundTerm) where
  abbrev IsFine : GroundTerm → Type 0
  IsFine t = ((sort : ℕ) × (sort_of g t ≡ Some sort)) × IsFormed g f (only terms) t

  -- a function that gives elements, at a term of its source
  function_formed : (h : ℕ) (t : GroundTerm) (to : ℕ) → target_of g h ≡ Some to → source_of g h ≡ sort_of g t → Contains terms t → IsFine (field h t)
  function_formed h t to target source there = choose (slice_get g.funs h) refl target source
    where
      choose : (o : Option FunSig) → slice_get g.funs h ≡ o → option_and_then (λ sig. record_sort sig.to) o ≡ Some to → option_and_then (λ sig. Some sig.from) o ≡ sort_of g t → IsFine (field h t)
      choose None e p q = cc
      choose (Some sig) e p q = ((to, target), (sig, e, sym q, there))

  first_formed : ((t : GroundTerm) → IsFirstTerm g f t → Contains terms t) → (t : GroundTerm) → IsFirstTerm g f t → IsFine t
  first_formed all (constant sort) h = ((sort, refl), h)
  first_formed all (skolem number sort ts) (e, own) =
      let P : GroundTerms → Type 0 = λ ts. IsFine (skolem number sort ts) in
      subst P (sym e) ((sort, refl), ([], own, tt, tt))
  first_formed all (field h t) c =
      elim (terms_made g f over (field h t) c) [
        | inl own ↦ no_field g f over own
        | inr (j, w, e, source, among, target) ↦
            let P : GroundTerm → Type 0 = λ t. IsFine t in
            subst P (sym e) (function_formed j w target.0 target.1 source (all w (other_first g f over w (Contains-append_right (own_names g f) (terms_of g f) w among))))
      ]

  each_listed : (P : GroundTerm → Type 0) → ((t : GroundTerm) → P t → Contains terms t) → (ts : GroundTerms) → HasEach P ts → HasEach (Contains terms) ts
  each_listed P all no_terms h = tt
  each_listed P all (term_and t ts) h = (all t h.0, each_listed P all ts h.1)

  applied_formed : (P : GroundTerm → Type 0) → ((t : GroundTerm) → P t → Contains terms t) → (t : GroundTerm) → IsAppliedTo g f P t → IsFine t
  applied_formed P all (constant sort) h = absurd h
  applied_formed P all (skolem number sort ts) (above, own, sorts, each) = ((sort, refl), (above, own, sorts, each_listed P all ts each))
  applied_formed P all (field h t) (used, source, there) =
      let (to, target) = functions_there g f h used in function_formed h t to target source (all t there)

  first_within : (n : ℕ) (t : GroundTerm) → IsFirstTerm g f t → ArisesWithin g f n t
  first_within zero t h = h
  first_within (suc n) t h = inl h

  within_formed : (n : ℕ) → ((t : GroundTerm) → ArisesWithin g f n t → Contains terms t) → (t : GroundTerm) → ArisesWithin g f n t → IsFine t
  within_formed zero all t h = first_formed all t h
  within_formed (suc n) all t (inl first) = first_formed (λ t h. all t (inl h)) t first
  within_formed (suc n) all t (inr applied) = applied_formed (ArisesWithin g f n) (λ t h. all t (arises_later g f over n t h)) t applied

  pub terms_within : (n : ℕ) → Lists (ArisesWithin g f n) terms → AreFormed g f terms
  terms_within n lists = record {
    sorted = λ t c. (within_formed n lists.all t (lists.only t c)).0;
    formed = λ t c. (within_formed n lists.all t (lists.only t c)).1;
  }

  herbrand_fine : Lists (IsHerbrandTerm g f) terms → (t : GroundTerm) → IsHerbrandTerm g f t → IsFine t
  herbrand_fine lists t (zero, h) = first_formed (λ t h. lists.all t (0, h)) t h
  herbrand_fine lists t (suc n, inl first) = first_formed (λ t h. lists.all t (0, h)) t first
  herbrand_fine lists t (suc n, inr applied) = applied_formed (ArisesWithin g f n) (λ t h. lists.all t (n, h)) t applied

  pub terms_herbrand : Lists (IsHerbrandTerm g f) terms → AreFormed g f terms
  terms_herbrand lists = record {
    sorted = λ t c. (herbrand_fine lists t (lists.only t c)).0;
    formed = λ t c. (herbrand_fine lists t (lists.only t c)).1;
  }
