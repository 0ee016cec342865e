-- The assignment of a lawful model.
use Rattle.std.proofs.Common.{◌≡◌, ℕ, Bool, true, false, ◌⊎◌, inl, inr, refl, sym, ◌∙◌, List, Some, None, Option, ap, subst, Contains}
use Rattle.std.specs.Prelude.{unwrap_or, int_lt, ◌==◌}
use Rattle.std.specs.Ordering.{int_eq}
use Rattle.std.specs.List.{find}
use Rattle.std.proofs.lemmas.Bool.{eqb-true}
use Rattle.std.proofs.lemmas.Bool.Decides.{eqb_tells}
use Rattle.text_ast.specs.Words.{IsText}
use Rattle.form_formula.specs.declared.structure.Range.{Range}
use Rattle.form_formula.specs.declared.structure.Range.TheVariants as kinds
use Rattle.form_formula.specs.declared.structure.Signature.{Signature}
use Rattle.form_formula.specs.declared.structure.SVal.{SVal}
use Rattle.form_formula.specs.declared.structure.SVal.TheVariants.{Num, Str}
use Rattle.form_formula.specs.Truth.{are_equal, both_pass, is_raised, number_of}
use Rattle.form_terms.specs.GroundTerms.{GroundTerm}
use Rattle.form_terms.proofs.Lists.{find-Contains}
use Rattle.form_terms.proofs.Kept.{nat_same, list_any-from}
use Rattle.form_terms.proofs.Lists.{find-any}
use Rattle.form_tables.specs.Vocabulary.{Vocabulary, told}
use Rattle.form_tables.specs.Consistent.{IsOfRange, range_of}
use Rattle.form_tables.specs.Facts.{Noun, Assignment, term, number, text, same, below, raised, is_fact, noun_value}
use Rattle.form_tables.specs.Clauses.{IsTyped}
use Rattle.form_tables.specs.Models.{Model, IsLawful, IsNumeric, IsWithoutText, noun_number, text_for, value_for, assignment_of}
use Rattle.form_tables.proofs.Positions.{find-passes}
use Rattle.form_tables.proofs.Assigned.{equal_same, same_equal}

same_test : (x y : SVal) (j k : ℕ) → (are_equal x y ≡ true → j ≡ k) → (j ≡ k → are_equal x y ≡ true) → are_equal x y ≡ (j == k)
same_test x y j k p q =
    elim (eqb_tells j k) [
      | inl h ↦ q h.1 ∙ sym h.0
      | inr h ↦ absent (are_equal x y) refl (λ e. h.1 (p e)) ∙ sym h.0
    ]
  where
    absent : (b : Bool) → are_equal x y ≡ b → (are_equal x y ≡ true → ⊥) → are_equal x y ≡ false
    absent true e never = absurd (never e)
    absent false e never = e

module _ (g : Signature) (texts : List (List ℕ)) (spare : ℕ → List ℕ) (m : Model) (v : Vocabulary) (lawful : IsLawful g texts spare m v) where
  abbrev a : Assignment
  a = assignment_of g texts spare m

  abbrev pub written : ℕ → List ℕ
  written k = text_for g texts spare m k

  -- the text of a class is one of the formula's that has it, or the spare one
  abbrev pub IsTextFor : ℕ → List ℕ → Type 0
  IsTextFor k w = (Contains texts w × (m.text_class w ≡ k)) ⊎ (IsWithoutText g texts spare m k × (w ≡ spare k))

  abbrev has_class : ℕ → List ℕ → Bool
  has_class k t = m.text_class t == k

  pub written_is : (k : ℕ) → IsTextFor k (written k)
  written_is k = choose (find (has_class k) texts) refl
    where
      none : find (has_class k) texts ≡ None → IsWithoutText g texts spare m k
      none e w c same' =
          let test : has_class k w ≡ true = ap (λ n. n == k) same' ∙ nat_same k in
          let (u, found, passes) = find-any (has_class k) texts (list_any-from (has_class k) texts w c test) in
          let both : Some u ≡ None = sym found ∙ e in cc

      choose : (o : Option (List ℕ)) → find (has_class k) texts ≡ o → IsTextFor k (unwrap_or o (spare k))
      choose None e = inr (none e, refl)
      choose (Some w) e = inl (find-Contains (has_class k) texts w e, eqb-true (m.text_class w) k (find-passes (has_class k) texts w e))

  -- a text of the formula is that of its class
  own_text : (w : List ℕ) → Contains texts w → written (m.text_class w) ≡ w
  own_text w c =
      let (u, found, passes) = find-any (λ t. m.text_class t == m.text_class w) texts
      (list_any-from (λ t. m.text_class t == m.text_class w) texts w c (nat_same (m.text_class w))) in
      let listed = find-Contains (λ t. m.text_class t == m.text_class w) texts u found in
      ap (λ o. unwrap_or o (spare (m.text_class w))) found ∙ lawful.texts_apart u w listed c (eqb-true (m.text_class u) (m.text_class w) passes)

  abbrev IsTextTerm : GroundTerm → Type 0
  IsTextTerm t = Contains (told v) t × (range_of g t ≡ Some kinds.Str)

  one_class : (t u : GroundTerm) → IsTextTerm t → IsTextTerm u → written (m.class t) ≡ written (m.class u) → m.class t ≡ m.class u
  one_class t u (c, kind) (d, kind') e = choose (written_is (m.class t)) (written_is (m.class u))
    where
      choose : IsTextFor (m.class t) (written (m.class t)) → IsTextFor (m.class u) (written (m.class u)) → m.class t ≡ m.class u
      choose (inl (p, q)) (inl (p', q')) = sym q ∙ (ap m.text_class e ∙ q')
      choose (inl (p, q)) (inr (free', q')) =
          let P : List ℕ → Type 0 = λ w. Contains texts w in
          absurd (lawful.spare_new u (record { told_there = d; ranged = kind'; without = free' }) (subst P (e ∙ q') p))
      choose (inr (free, q)) (inl (p', q')) =
          let P : List ℕ → Type 0 = λ w. Contains texts w in
          absurd (lawful.spare_new t (record { told_there = c; ranged = kind; without = free }) (subst P (sym e ∙ q) p'))
      choose (inr (free, q)) (inr (free', q')) =
          lawful.spares_apart t u (record { told_there = c; ranged = kind; without = free }) (record { told_there = d; ranged = kind'; without = free' }) (sym q ∙ (e ∙ q'))

  one_text : (t : GroundTerm) (w : List ℕ) → IsTextTerm t → Contains texts w → written (m.class t) ≡ w → m.class t ≡ m.text_class w
  one_text t w (c, kind) d e = choose (written_is (m.class t))
    where
      choose : IsTextFor (m.class t) (written (m.class t)) → m.class t ≡ m.text_class w
      choose (inl (p, q)) = sym q ∙ ap m.text_class e
      choose (inr (free, q)) =
          let P : List ℕ → Type 0 = λ w. Contains texts w in
          absurd (lawful.spare_new t (record { told_there = c; ranged = kind; without = free }) (subst P (sym e ∙ q) d))

  text_fits : (t : GroundTerm) → IsTextTerm t → IsText (written (m.class t))
  text_fits t (c, kind) = choose (written_is (m.class t))
    where
      choose : IsTextFor (m.class t) (written (m.class t)) → IsText (written (m.class t))
      choose (inl (p, q)) = lawful.are_texts (written (m.class t)) p
      choose (inr (free, q)) =
          let P : List ℕ → Type 0 = λ w. IsText w in subst P (sym q) (lawful.spare_text t (record { told_there = c; ranged = kind; without = free }))

  pub model_typed : IsTyped g v a
  model_typed t range c kind =
      let P : Option Range → Type 0 = λ o. IsOfRange range (value_for g texts spare m o t) in
      subst P (sym kind) (own range kind)
    where
      own : (range : Range) → range_of g t ≡ Some range → IsOfRange range (value_for g texts spare m (Some range) t)
      own (kinds.Rec sort) kind = tt
      own kinds.Flag kind = tt
      own kinds.Num kind = lawful.numbers t c
      own kinds.Str kind = text_fits t (c, kind)

  value_is : (t : GroundTerm) (range : Range) → range_of g t ≡ Some range → a.value t ≡ value_for g texts spare m (Some range) t
  value_is t range kind = ap (λ o. value_for g texts spare m o t) kind

  two_values : (t u : GroundTerm) (range : Range) → range_of g t ≡ Some range → range_of g u ≡ Some range
      → is_fact a (same (term t) (term u)) ≡ are_equal (value_for g texts spare m (Some range) t) (value_for g texts spare m (Some range) u)
  two_values t u range p q =
      ap (λ x. are_equal x (a.value u)) (value_is t range p) ∙ ap (are_equal (value_for g texts spare m (Some range) t)) (value_is u range q)

  -- elements and texts are the same where their classes are
  pub elements_same : (t u : GroundTerm) (n : ℕ) → range_of g t ≡ Some (kinds.Rec n) → range_of g u ≡ Some (kinds.Rec n)
      → is_fact a (same (term t) (term u)) ≡ (m.class t == m.class u)
  elements_same t u n p q = two_values t u (kinds.Rec n) p q

  text-value : (x y : List ℕ) → Str x ≡ Str y → x ≡ y
  text-value x y e = cc

  pub texts_same : (t u : GroundTerm) → Contains (told v) t → Contains (told v) u → range_of g t ≡ Some kinds.Str → range_of g u ≡ Some kinds.Str
      → is_fact a (same (term t) (term u)) ≡ (m.class t == m.class u)
  texts_same t u c d p q =
      two_values t u kinds.Str p q
      ∙ same_test (Str (written (m.class t))) (Str (written (m.class u))) (m.class t) (m.class u)
      (λ e. one_class t u (c, p) (d, q) (text-value (written (m.class t)) (written (m.class u)) (equal_same (Str (written (m.class t))) (Str (written (m.class u))) e)))
      (λ e. same_equal kinds.Str (Str (written (m.class t))) (Str (written (m.class u))) tt (text_fits t (c, p)) (ap (λ k. Str (written k)) e))

  pub text_same : (t : GroundTerm) (w : List ℕ) → Contains (told v) t → range_of g t ≡ Some kinds.Str → Contains texts w
      → is_fact a (same (term t) (text w)) ≡ (m.class t == m.text_class w)
  text_same t w c p d =
      ap (λ x. are_equal x (Str w)) (value_is t kinds.Str p)
      ∙ same_test (Str (written (m.class t))) (Str w) (m.class t) (m.text_class w)
      (λ e. one_text t w (c, p) d (text-value (written (m.class t)) w (equal_same (Str (written (m.class t))) (Str w) e)))
      (λ e. same_equal kinds.Str (Str (written (m.class t))) (Str w) tt (text_fits t (c, p)) (ap (λ w. Str w) (ap written e ∙ own_text w d)))

  -- the value of a number
  numeric_is : (x : Noun) → IsNumeric g x → noun_value a x ≡ Num (noun_number m x)
  numeric_is (term t) kind = value_is t kinds.Num kind
  numeric_is (number n) h = refl
  numeric_is (text w) h = absurd h

  pub numbers_below : (x y : Noun) → IsNumeric g x → IsNumeric g y → is_fact a (below x y) ≡ int_lt (noun_number m x) (noun_number m y)
  numbers_below x y p q =
      ap (λ v. both_pass int_lt (number_of v) (number_of (noun_value a y))) (numeric_is x p)
      ∙ ap (λ v. both_pass int_lt (number_of (Num (noun_number m x))) (number_of v)) (numeric_is y q)

  pub numbers_same : (x y : Noun) → IsNumeric g x → IsNumeric g y → is_fact a (same x y) ≡ int_eq (noun_number m x) (noun_number m y)
  numbers_same x y p q =
      ap (λ v. are_equal v (noun_value a y)) (numeric_is x p) ∙ ap (are_equal (Num (noun_number m x))) (numeric_is y q)

  pub flags_raised : (t : GroundTerm) → range_of g t ≡ Some kinds.Flag → is_fact a (raised t) ≡ m.raised t
  flags_raised t kind = ap is_raised (value_is t kinds.Flag kind)
