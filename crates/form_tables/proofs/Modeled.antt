-- An assignment is that of a lawful model.
use Rattle.std.proofs.Common.{◌≡◌, ℕ, ℤ, suc, Bool, true, false, inl, inr, refl, sym, ◌∙◌, List, [], ◌∷◌, ◌++◌, Some, None, cond, ap, subst, Contains}
use Rattle.std.specs.Prelude.{IsTrue, pos, slice_index_or, FitsSigned}
use Rattle.std.specs.Int.{w64}
use Rattle.std.specs.List.{flat_map, list_all}
use Rattle.std.specs.Option.{option_map}
use Rattle.std.proofs.lemmas.List.Elements.{Contains-append_left, Contains-append_right}
use Rattle.text_ast.specs.Words.{IsText}
use Rattle.form_formula.specs.declared.structure.Range.{Range}
use Rattle.form_formula.specs.declared.structure.Range.TheVariants as kinds
use Rattle.form_formula.specs.declared.structure.Signature.{Signature}
use Rattle.form_formula.specs.declared.structure.SVal.{SVal}
use Rattle.form_formula.specs.declared.structure.SVal.TheVariants.{Rec, Flag, Num, Str}
use Rattle.form_formula.specs.NormalForm.{IsNormal}
use Rattle.form_formula.specs.Over.{IsOver}
use Rattle.form_formula.specs.Trees.{Formula}
use Rattle.form_formula.specs.Truth.{are_equal, is_raised}
use Rattle.form_terms.specs.GroundTerms.{GroundTerm, constant, skolem, field, no_terms}
use Rattle.form_terms.specs.Passing.{IsSatisfiableOver}
use Rattle.form_terms.specs.Reading.{Reads}
use Rattle.form_terms.proofs.Lists.{Contains-head, Contains-cons_cases, Contains-none, flat_map-Contains}
use Rattle.form_tables.specs.Vocabulary.{Vocabulary, IsVocabulary, told}
use Rattle.form_tables.specs.Table.{holds, is_there}
use Rattle.form_tables.specs.Consistent.{IsOfRange, range_of}
use Rattle.form_tables.specs.Facts.{Assignment, is_met, table_for}
use Rattle.form_tables.specs.Clauses.{IsTyped, base_clauses, congruence_clauses}
use Rattle.form_tables.specs.Models.{Model, IsLawful, text_for, value_for, assignment_of}
use Rattle.form_tables.proofs.Sound.{told_function}
use Rattle.form_tables.proofs.Assigned.{equal_same, text_same}
use Rattle.form_tables.proofs.Assignments.{assigned, from_assigned, consistent_from, met_from}
use Rattle.form_tables.proofs.Lawful.{model_typed, written_is}
use Rattle.form_tables.proofs.MadeStructure.{zero_fits}
use Rattle.form_tables.proofs.SameTold.{consistent_also, reads_also}

-- where a text stands in a list
abbrev pub index : List (List ℕ) → List ℕ → ℕ
index [] w = 0
index (x ∷ xs) w = cond (are_equal (Str x) (Str w)) 0 (suc (index xs w))

text_itself : (w : List ℕ) → are_equal (Str w) (Str w) ≡ true
text_itself w = text_same w

index_finds : (xs : List (List ℕ)) (w : List ℕ) → Contains xs w → slice_index_or xs (index xs w) [] ≡ w
index_finds [] w c = Contains-none w c
index_finds (x ∷ xs) w c = choose (λ later. index_finds xs w later) (are_equal (Str x) (Str w)) refl
  where
    one : (x w : List ℕ) → are_equal (Str x) (Str w) ≡ true → x ≡ w
    one x w e = let same : Str x ≡ Str w = equal_same (Str x) (Str w) e in cc

    choose : (Contains xs w → slice_index_or xs (index xs w) [] ≡ w) → (b : Bool) → are_equal (Str x) (Str w) ≡ b
        → slice_index_or (x ∷ xs) (cond b 0 (suc (index xs w))) [] ≡ w
    choose later true e = one x w e
    choose later false e =
        elim (Contains-cons_cases x xs w c) [
          | inl same ↦ let P : List ℕ → Type 0 = λ y. are_equal (Str y) (Str w) ≡ false in let no' : true ≡ false = sym (text_itself w) ∙ subst P same e in cc
          | inr c ↦ later c
        ]

abbrev pub texts_of : SVal → List (List ℕ)
texts_of (Rec x) = []
texts_of (Flag b) = []
texts_of (Num n) = []
texts_of (Str w) = w ∷ []

abbrev pub number_in : SVal → ℤ
number_in (Rec x) = pos 0
number_in (Flag b) = pos 0
number_in (Num n) = n
number_in (Str w) = pos 0

number_fits : (range : Range) (x : SVal) → IsOfRange range x → FitsSigned w64 (number_in x)
number_fits range (Rec x) h = zero_fits
number_fits range (Flag b) h = zero_fits
number_fits range (Str w) h = zero_fits
number_fits (kinds.Rec sort) (Num n) h = absurd h
number_fits kinds.Flag (Num n) h = absurd h
number_fits kinds.Num (Num n) h = h
number_fits kinds.Str (Num n) h = absurd h

range_there : (g : Signature) (f : Formula) (terms : List GroundTerm) (v : Vocabulary) → IsVocabulary g f terms v → (t : GroundTerm) → Contains (told v) t
    → (range : Range) × (range_of g t ≡ Some range)
range_there g f terms v words (constant sort) c = (kinds.Rec sort, refl)
range_there g f terms v words (skolem number sort ts) c = (kinds.Rec sort, refl)
range_there g f terms v words (field h t) c =
    let (sig, function, source, named) = told_function g f terms v words h t c in (sig.to, ap (option_map (λ sig. sig.to)) function)

module _ (g : Signature) (f : Formula) (terms : List GroundTerm) (v : Vocabulary) (words : IsVocabulary g f terms v) (texts : List (List ℕ))
    (are : (w : List ℕ) → Contains texts w → IsText w) (a : Assignment) (typed : IsTyped g v a) where
  abbrev pub all : List (List ℕ)
  all = texts ++ flat_map (λ t. texts_of (a.value t)) (told v)

  abbrev pub class_in : SVal → ℕ
  class_in (Rec x) = x
  class_in (Flag b) = 0
  class_in (Num n) = 0
  class_in (Str w) = index all w

  abbrev pub spare : ℕ → List ℕ
  spare k = slice_index_or all k []

  abbrev pub model : Model
  model = record {
    there = a.there;
    raised = λ t. is_raised (a.value t);
    has = a.has;
    is_empty = a.is_empty;
    class = λ t. class_in (a.value t);
    text_class = index all;
    number = λ t. number_in (a.value t);
  }

  abbrev IsTextTerm : GroundTerm → Type 0
  IsTextTerm t = (w : List ℕ) × (a.value t ≡ Str w) × Contains all w × IsText w

  text_term : (t : GroundTerm) → Contains (told v) t → range_of g t ≡ Some kinds.Str → IsTextTerm t
  text_term t c kind = choose (a.value t) refl (typed t kinds.Str c kind)
    where
      choose : (x : SVal) → a.value t ≡ x → IsOfRange kinds.Str x → IsTextTerm t
      choose (Rec x) e h = absurd h
      choose (Flag b) e h = absurd h
      choose (Num n) e h = absurd h
      choose (Str w) e h =
          let P : List (List ℕ) → Type 0 = λ ws. Contains ws w in
          let here : Contains (texts_of (a.value t)) w = subst P (sym (ap texts_of e)) (Contains-head w []) in
          (w, e, Contains-append_right texts _ w (flat_map-Contains (λ t. texts_of (a.value t)) (told v) t w c here), h)

  class_is : (t : GroundTerm) (w : List ℕ) → a.value t ≡ Str w → model.class t ≡ index all w
  class_is t w e = ap class_in e

  spare_is : (t : GroundTerm) (w : List ℕ) → a.value t ≡ Str w → Contains all w → spare (model.class t) ≡ w
  spare_is t w e c = ap spare (class_is t w e) ∙ index_finds all w c

  one_text : (u w : List ℕ) → Contains all u → Contains all w → index all u ≡ index all w → u ≡ w
  one_text u w c d e = sym (index_finds all u c) ∙ (ap spare e ∙ index_finds all w d)

  in_all : (w : List ℕ) → Contains texts w → Contains all w
  in_all w c = Contains-append_left texts (flat_map (λ t. texts_of (a.value t)) (told v)) w c

  pub lawful : IsLawful g texts spare model v
  lawful = record {
    numbers = λ t c. let (range, kind) = range_there g f terms v words t c in number_fits range (a.value t) (typed t range c kind);
    texts_apart = λ t u c d e. one_text t u (in_all t c) (in_all u d) e;
    are_texts = are;
    spare_text = λ t s.
        let (w, e, c, h) = text_term t s.told_there s.ranged in
        let P : List ℕ → Type 0 = λ w. IsText w in
        subst P (sym (spare_is t w e c)) h;
    spare_new = λ t s c.
        let (w, e, d, h) = text_term t s.told_there s.ranged in
        s.without (spare (model.class t)) c (ap (index all) (spare_is t w e d) ∙ sym (class_is t w e));
    spares_apart = λ t u s s' same.
        let (w, e, c, h) = text_term t s.told_there s.ranged in
        let (w', e', c', h') = text_term u s'.told_there s'.ranged in
        let one : w ≡ w' = sym (spare_is t w e c) ∙ (same ∙ spare_is u w' e' c') in
        class_is t w e ∙ (ap (index all) one ∙ sym (class_is u w' e'));
  }

  abbrev pub assignment : Assignment
  assignment = assignment_of g texts spare model

  written_as : (t : GroundTerm) (w : List ℕ) → a.value t ≡ Str w → Contains all w → text_for g texts spare model (model.class t) ≡ w
  written_as t w e c =
      elim (written_is g texts spare model v lawful (model.class t)) [
        | inl found ↦ one_text (text_for g texts spare model (model.class t)) w (in_all (text_for g texts spare model (model.class t)) found.0) c (found.1 ∙ class_is t w e)
        | inr free ↦ free.1 ∙ spare_is t w e c
      ]

  value_as : (t : GroundTerm) → Contains (told v) t → (range : Range) → range_of g t ≡ Some range → (x : SVal) → a.value t ≡ x → IsOfRange range x
      → x ≡ value_for g texts spare model (Some range) t
  value_as t c (kinds.Rec sort) kind (Rec x) e h = sym (ap (λ x. Rec (class_in x)) e)
  value_as t c (kinds.Rec sort) kind (Flag b) e h = absurd h
  value_as t c (kinds.Rec sort) kind (Num n) e h = absurd h
  value_as t c (kinds.Rec sort) kind (Str w) e h = absurd h
  value_as t c kinds.Flag kind (Rec x) e h = absurd h
  value_as t c kinds.Flag kind (Flag b) e h = sym (ap (λ x. Flag (is_raised x)) e)
  value_as t c kinds.Flag kind (Num n) e h = absurd h
  value_as t c kinds.Flag kind (Str w) e h = absurd h
  value_as t c kinds.Num kind (Rec x) e h = absurd h
  value_as t c kinds.Num kind (Flag b) e h = absurd h
  value_as t c kinds.Num kind (Num n) e h = sym (ap (λ x. Num (number_in x)) e)
  value_as t c kinds.Num kind (Str w) e h = absurd h
  value_as t c kinds.Str kind (Rec x) e h = absurd h
  value_as t c kinds.Str kind (Flag b) e h = absurd h
  value_as t c kinds.Str kind (Num n) e h = absurd h
  value_as t c kinds.Str kind (Str w) e h =
      let (u, e', d, h') = text_term t c kind in
      let both : Str u ≡ Str w = sym e' ∙ e in
      let one : u ≡ w = cc in
      let P : List ℕ → Type 0 = λ w. Contains all w in
      ap (λ w. Str w) (sym (written_as t w e (subst P one d)))

  pub same_values : (t : GroundTerm) → Contains (told v) t → (table_for a).value t ≡ (table_for assignment).value t
  same_values t c =
      let (range, kind) = range_there g f terms v words t c in
      let here : a.value t ≡ assignment.value t =
      value_as t c range kind (a.value t) refl (typed t range c kind) ∙ sym (ap (λ o. value_for g texts spare model o t) kind) in
      ap (λ x. cond (a.there t) (Some x) None) here

module _ (g : Signature) (f : Formula) (terms : List GroundTerm) (v : Vocabulary) (over : IsOver g [] f) (normal : IsNormal f) (words : IsVocabulary g f terms v)
    (texts : List (List ℕ)) (are : (w : List ℕ) → Contains texts w → IsText w) where
  abbrev IsModeled : Type 0
  IsModeled = (spare : ℕ → List ℕ) × (m : Model) × IsLawful g texts spare m v
      × IsTrue (list_all (is_met (assignment_of g texts spare m)) (base_clauses g v ++ congruence_clauses g v))
      × Reads g (is_there (table_for (assignment_of g texts spare m))) (holds (table_for (assignment_of g texts spare m))) terms 0 [] no_terms f

  pub modeled : IsSatisfiableOver g f (Contains terms) → IsModeled
  modeled s =
      let (a, typed, met, r) = assigned g f terms v over normal words s in
      let law = lawful g f terms v words texts are a typed in
      let own : Assignment = assignment g f terms v words texts are a typed in
      let values = same_values g f terms v words texts are a typed in
      let fits = consistent_from g f terms v a words typed met in
      let fits' = consistent_also g f terms v words (table_for a) (table_for own).value values fits in
      let typed' = model_typed g texts (spare g f terms v words texts are a typed) (model g f terms v words texts are a typed) v law in (
        spare g f terms v words texts are a typed,
        model g f terms v words texts are a typed,
        law,
        met_from g f terms v own words typed' fits',
        reads_also g f terms v words (table_for a) (table_for own).value values over r,
      )

  pub from_modeled : IsModeled → IsSatisfiableOver g f (Contains terms)
  from_modeled (spare, m, law, met, r) =
      from_assigned g f terms v over normal words (assignment_of g texts spare m, model_typed g texts spare m v law, met, r)
