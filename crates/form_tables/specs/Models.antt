-- What decision procedures find, and the assignment that it stands for.
use Rattle.std.specs.Prelude.{◌≡◌, ℕ, ℤ, Bool, false, List, Option, None, Some, unwrap_or, pos, Contains, FitsSigned, ◌==◌}
use Rattle.std.specs.Int.{w64}
use Rattle.std.specs.List.{find}
use Rattle.text_ast.specs.Words.{IsText}
use Rattle.form_formula.specs.declared.structure.Range.{Range}
use Rattle.form_formula.specs.declared.structure.Range.TheVariants as range
use Rattle.form_formula.specs.declared.structure.Signature.{Signature}
use Rattle.form_formula.specs.declared.structure.SVal.{SVal}
use Rattle.form_formula.specs.declared.structure.SVal.TheVariants.{Rec, Flag, Num, Str}
use Rattle.form_terms.specs.GroundTerms.{GroundTerm}
use Rattle.form_tables.specs.Vocabulary.{Vocabulary, told}
use Rattle.form_tables.specs.Consistent.{range_of}
use Rattle.form_tables.specs.Facts.{Noun, Assignment, term, number, text}

-- which facts hold that need no procedure; the classes of terms and of the formula's texts, which are the same where these are equal;
-- and the numbers of terms
pub record Model : Type 0 where
  pub there : GroundTerm → Bool
  pub raised : GroundTerm → Bool
  pub has : ℕ → GroundTerm → GroundTerm → Bool
  pub is_empty : ℕ → Bool
  pub class : GroundTerm → ℕ
  pub text_class : List ℕ → ℕ
  pub number : GroundTerm → ℤ

-- a noun that is a number, and which
abbrev pub IsNumeric : Signature → Noun → Type 0
IsNumeric g (term t) = range_of g t ≡ Some range.Num
IsNumeric g (number n) = Unit {0}
IsNumeric g (text t) = ⊥

abbrev pub noun_number : Model → Noun → ℤ
noun_number m (term t) = m.number t
noun_number m (number n) = n
noun_number m (text t) = pos 0

-- the formula's texts, and texts for classes that have none of these
module _ (g : Signature) (texts : List (List ℕ)) (spare : ℕ → List ℕ) (m : Model) where
  abbrev pub text_for : ℕ → List ℕ
  text_for k = unwrap_or (find (λ t. m.text_class t == k) texts) (spare k)

  abbrev pub value_for : Option Range → GroundTerm → SVal
  value_for None t = Flag false
  value_for (Some (range.Rec sort)) t = Rec (m.class t)
  value_for (Some range.Flag) t = Flag (m.raised t)
  value_for (Some range.Num) t = Num (m.number t)
  value_for (Some range.Str) t = Str (text_for (m.class t))

  abbrev pub assignment_of : Assignment
  assignment_of = record { there = m.there; value = λ t. value_for (range_of g t) t; has = m.has; is_empty = m.is_empty }

  -- no text of the formula is of the class
  abbrev pub IsWithoutText : ℕ → Type 0
  IsWithoutText k = (t : List ℕ) → Contains texts t → m.text_class t ≡ k → ⊥

  -- the text of a told term is a spare one
  pub record IsSpare (v : Vocabulary) (t : GroundTerm) : Type 0 where
    pub told_there : Contains (told v) t
    pub ranged : range_of g t ≡ Some range.Str
    pub without : IsWithoutText (m.class t)

  -- numbers are of 64 bits; two texts of the formula are of two classes; and the spare texts are texts, none of which is one of the
  -- formula's or that of another class
  pub record IsLawful (v : Vocabulary) : Type 0 where
    pub numbers : (t : GroundTerm) → Contains (told v) t → FitsSigned w64 (m.number t)
    pub texts_apart : (t u : List ℕ) → Contains texts t → Contains texts u → m.text_class t ≡ m.text_class u → t ≡ u
    pub are_texts : (t : List ℕ) → Contains texts t → IsText t
    pub spare_text : (t : GroundTerm) → IsSpare v t → IsText (spare (m.class t))
    pub spare_new : (t : GroundTerm) → IsSpare v t → Contains texts (spare (m.class t)) → ⊥
    pub spares_apart : (t u : GroundTerm) → IsSpare v t → IsSpare v u → spare (m.class t) ≡ spare (m.class u) → m.class t ≡ m.class u
