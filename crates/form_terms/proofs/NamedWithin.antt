-- The terms of a formula name elements of their sorts.
use Rattle.std.proofs.Common.{◌≡◌, ℕ, zero, suc, ◌<◌, inl, inr, refl, sym, List, [], Some, None, Option, subst, Contains}
use Rattle.std.specs.Prelude.{option_and_then, slice_get}
use Rattle.std.proofs.lemmas.List.Elements.{Contains-append_right}
use Rattle.std.proofs.lemmas.Option.{option_and_then_some}
use Rattle.form_formula.specs.declared.structure.Range.{Range}
use Rattle.form_formula.specs.declared.structure.Range.TheVariants as kinds
use Rattle.form_formula.specs.declared.structure.FunSig.{FunSig}
use Rattle.form_formula.specs.declared.structure.Signature.{Signature}
use Rattle.form_formula.specs.declared.structure.SVal.{SVal}
use Rattle.form_formula.specs.declared.structure.SVal.TheVariants.{Rec, Flag, Num, Str}
use Rattle.form_formula.specs.declared.structure.Structure.{Structure}
use Rattle.form_formula.specs.Over.{IsOver}
use Rattle.form_formula.specs.Trees.{Formula}
use Rattle.form_formula.specs.Truth.{entry, element_of}
use Rattle.form_terms.specs.GroundTerms.{GroundTerm, GroundTerms, constant, skolem, field, sort_of, source_of, record_sort}
use Rattle.form_terms.specs.Universe.{variables_of, terms_of, IsFirstTerm, IsAppliedTo, ArisesWithin}
use Rattle.form_terms.specs.Listing.{own_names}
use Rattle.form_terms.specs.Structures.{IsStructure, IsValueOf, IsEntryOf, size_of}
use Rattle.form_terms.specs.Passing.{Choice, IsChoice, element_named, elements_named}
use Rattle.form_terms.proofs.Recorded.{terms_made}
use Rattle.form_terms.proofs.Stages.{other_first, no_field}

module _ (g : Signature) (f : Formula) (s : Structure) (c : Choice) (over : IsOver g [] f) (structure : IsStructure g s) (fits : IsChoice g s f c) where
  abbrev IsWithin : GroundTerm → Type 0
  IsWithin t = (sort x : ℕ) → sort_of g t ≡ Some sort → element_named s c t ≡ Some x → x < size_of s sort

  variable_within : (number sort : ℕ) (above : List ℕ) (ts : GroundTerms) → Contains (variables_of g f) (record { number = number; sort = sort; above = above })
      → IsWithin (skolem number sort ts)
  variable_within number sort above ts own sort' x kind named =
      let same : sort ≡ sort' = cc in
      let P : ℕ → Type 0 = λ n. x < size_of s n in
      subst P same (option_and_then_some (c.variable number) (elements_named s c ts) x named (λ xs p q. fits.variables (record { number = number; sort = sort; above = above }) xs x own q))

  value_within : (to : Range) (v : SVal) (sort x : ℕ) → IsValueOf s to v → record_sort to ≡ Some sort → element_of v ≡ Some x → x < size_of s sort
  value_within (kinds.Rec n) (Rec y) sort x h to e =
      let a : n ≡ sort = cc in
      let b : y ≡ x = cc in
      let P : ℕ → Type 0 = λ n. y < size_of s n in
      let Q : ℕ → Type 0 = λ y. y < size_of s sort in
      subst Q b (subst P a h)
  value_within (kinds.Rec n) (Flag b) sort x h to e = absurd h
  value_within (kinds.Rec n) (Num m) sort x h to e = absurd h
  value_within (kinds.Rec n) (Str t) sort x h to e = absurd h
  value_within kinds.Flag v sort x h to e = cc
  value_within kinds.Num v sort x h to e = cc
  value_within kinds.Str v sort x h to e = cc

  entry_within : (sig : FunSig) (o : Option SVal) (v : SVal) (sort x : ℕ) → IsEntryOf s sig o → o ≡ Some v → record_sort sig.to ≡ Some sort → element_of v ≡ Some x → x < size_of s sort
  entry_within sig None v sort x h e to same = cc
  entry_within sig (Some w) v sort x h e to same =
      let own : w ≡ v = cc in
      let P : SVal → Type 0 = λ v. IsValueOf s sig.to v in
      value_within sig.to v sort x (subst P own h) to same

  field_within : (k : ℕ) (w : GroundTerm) → source_of g k ≡ sort_of g w → IsWithin w → IsWithin (field k w)
  field_within k w source before sort x kind named =
      option_and_then_some element_of (option_and_then (entry s k) (element_named s c w)) x named (λ v p q.
      option_and_then_some (entry s k) (element_named s c w) v p (λ y there value. choose (slice_get g.funs k) refl y v there value q source kind))
    where
      choose : (o : Option FunSig) → slice_get g.funs k ≡ o → (y : ℕ) (v : SVal) → element_named s c w ≡ Some y → entry s k y ≡ Some v → element_of v ≡ Some x
          → option_and_then (λ sig. Some sig.from) o ≡ sort_of g w → option_and_then (λ sig. record_sort sig.to) o ≡ Some sort → x < size_of s sort
      choose None e y v there value own source kind = cc
      choose (Some sig) e y v there value own source kind =
          let inner : y < size_of s sig.from = before sig.from y (sym source) there in
          entry_within sig (entry s k y) v sort x (structure.values k sig y e inner) value kind own

  first_within : (t : GroundTerm) → IsFirstTerm g f t → IsWithin t
  first_within (constant sort) h = λ sort' x kind named.
      let same : sort ≡ sort' = cc in
      let P : ℕ → Type 0 = λ n. x < size_of s n in
      subst P same (fits.constants sort x named)
  first_within (skolem number sort ts) h = variable_within number sort [] ts h.1
  first_within (field k w) h =
      elim (terms_made g f over (field k w) h) [
        | inl own ↦ no_field g f over own
        | inr (j, u, e, source, among, target) ↦
            let a : j ≡ k = cc in
            let b : u ≡ w = cc in
            let P : ℕ → Type 0 = λ j. source_of g j ≡ sort_of g u in
            let Q : GroundTerm → Type 0 = λ u. source_of g k ≡ sort_of g u in
            let R : GroundTerm → Type 0 = λ u. IsFirstTerm g f u in
            let first : IsFirstTerm g f w = subst R b (other_first g f over u (Contains-append_right (own_names g f) (terms_of g f) u among)) in
            field_within k w (subst Q b (subst P a source)) (first_within w first)
      ]

  applied_within : (P : GroundTerm → Type 0) → ((t : GroundTerm) → P t → IsWithin t) → (t : GroundTerm) → IsAppliedTo g f P t → IsWithin t
  applied_within P before (constant sort) a = absurd a
  applied_within P before (skolem number sort ts) (above, own, sorts, each) = variable_within number sort above ts own
  applied_within P before (field k w) (used, source, there) = field_within k w source (before w there)

  pub arises_named : (n : ℕ) (t : GroundTerm) → ArisesWithin g f n t → IsWithin t
  arises_named zero t h = first_within t h
  arises_named (suc n) t (inl first) = first_within t first
  arises_named (suc n) t (inr applied) = applied_within (ArisesWithin g f n) (arises_named n) t applied
