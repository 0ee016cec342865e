-- Two readings that agree on what the vocabulary covers.
use Rattle.std.proofs.Common.{◌≡◌, ℕ, ◌+◌, inl, inr, Bool, not, refl, sym, ◌∙◌, List, [], ◌∷◌, ◌++◌, Some, ap, Contains}
use Rattle.form_formula.specs.declared.structure.Signature.{Signature}
use Rattle.form_formula.specs.Over.{IsOver}
use Rattle.form_formula.specs.Trees.{Formula, yes, no, equal, less, has, flag, present, negation, both, either, exists, forall}
use Rattle.form_terms.specs.GroundTerms.{GroundTerm, GroundTerms, skolem, and_last, sort_of}
use Rattle.form_terms.specs.Parts.{quantifiers}
use Rattle.form_terms.specs.Reading.{Reads}
pub use Rattle.form_tables.specs.Vocabulary.{AreTerms}
use Rattle.form_tables.specs.Vocabulary.{Vocabulary, Covers, CoversAtom}

pub terms_more : (g : Signature) (terms : List GroundTerm) (sorts : List ℕ) (ts : List GroundTerm) (sort : ℕ) (t : GroundTerm) → AreTerms g terms sorts ts
    → Contains terms t → sort_of g t ≡ Some sort → AreTerms g terms (sorts ++ sort ∷ []) (ts ++ t ∷ [])
terms_more g terms [] [] sort t h there kind = ((there, kind), tt)
terms_more g terms [] (u ∷ ts) sort t h there kind = absurd h
terms_more g terms (s ∷ sorts) [] sort t h there kind = absurd h
terms_more g terms (s ∷ sorts) (u ∷ ts) sort t h there kind = (h.0, terms_more g terms sorts ts sort t h.1 there kind)

module _ (g : Signature) (v : Vocabulary) (terms : List GroundTerm) (ranged : (t : GroundTerm) → Contains terms t → Contains v.named t)
    (is_there is_there' : GroundTerm → Bool) (holds holds' : List GroundTerm → Formula → Bool)
    (there : (t : GroundTerm) → Contains v.named t → is_there t ≡ is_there' t)
    (atoms : (a : Formula) (scope : List ℕ) (env : List GroundTerm) → IsOver g scope a → AreTerms g v.named scope env → CoversAtom g v env a → holds env a ≡ holds' env a) where
  pub read_also : (a : Formula) (number : ℕ) (scope : List ℕ) (env : List GroundTerm) (args : GroundTerms) → IsOver g scope a → AreTerms g v.named scope env
      → Covers g v terms number env args a → Reads g is_there holds terms number env args a → Reads g is_there' holds' terms number env args a
  read_also yes number scope env args over above covers r = tt
  read_also no number scope env args over above covers r = r
  read_also (equal t u) number scope env args over above covers r = sym (atoms (equal t u) scope env over above covers) ∙ r
  read_also (less t u) number scope env args over above covers r = sym (atoms (less t u) scope env over above covers) ∙ r
  read_also (has k t u) number scope env args over above covers r = sym (atoms (has k t u) scope env over above covers) ∙ r
  read_also (flag h t) number scope env args over above covers r = sym (atoms (flag h t) scope env over above covers) ∙ r
  read_also (present h t) number scope env args over above covers r = sym (atoms (present h t) scope env over above covers) ∙ r
  read_also (negation a) number scope env args over above covers r = ap not (sym (atoms a scope env over above covers)) ∙ r
  read_also (both a b) number scope env args over above covers r =
      (read_also a number scope env args over.0 above covers.0 r.0, read_also b (number + quantifiers a) scope env args over.1 above covers.1 r.1)
  read_also (either a b) number scope env args over above covers (inl r) = inl (read_also a number scope env args over.0 above covers.0 r)
  read_also (either a b) number scope env args over above covers (inr r) = inr (read_also b (number + quantifiers a) scope env args over.1 above covers.1 r)
  read_also (exists sort a) number scope env args over above covers (alive, r) =
      let t : GroundTerm = skolem number sort args in (
        sym (there t covers.0) ∙ alive,
        read_also a (number + 1) (scope ++ sort ∷ []) (env ++ t ∷ []) args over.1 (terms_more g v.named scope env sort t above covers.0 refl) covers.1 r,
      )
  read_also (forall sort a) number scope env args over above covers r = λ t listed kind alive.
      read_also a (number + 1) (scope ++ sort ∷ []) (env ++ t ∷ []) (and_last args t) over.1
      (terms_more g v.named scope env sort t above (ranged t listed) kind) (covers t listed kind) (r t listed kind (there t (ranged t listed) ∙ alive))
