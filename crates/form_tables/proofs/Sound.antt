-- The table of a structure is consistent.
use Rattle.std.proofs.Common.{◌≡◌, ℕ, zero, suc, ◌<◌, inl, inr, true, false, not, refl, sym, ◌∙◌, List, ◌∷◌, Some, None, Option, ap, subst, arith, Contains}
use Rattle.std.specs.Prelude.{option_and_then, is_some, ◌==◌, IsTrue}
use Rattle.std.specs.Option.{option_map}
use Rattle.std.proofs.lemmas.Bool.Decides.{eqb_tells}
use Rattle.std.proofs.lemmas.List.Elements.{Contains-append_cases}
use Rattle.std.proofs.lemmas.Option.{option_and_then_some}
use Rattle.form_formula.specs.declared.structure.Range.{Range}
use Rattle.form_formula.specs.declared.structure.Range.TheVariants as kinds
use Rattle.form_formula.specs.declared.structure.FunSig.{FunSig}
use Rattle.form_formula.specs.declared.structure.Signature.{Signature}
use Rattle.form_formula.specs.declared.structure.SVal.{SVal}
use Rattle.form_formula.specs.declared.structure.SVal.TheVariants.{Rec, Flag, Num, Str}
use Rattle.form_formula.specs.declared.structure.Structure.{Structure}
use Rattle.form_formula.specs.Over.{IsFunction}
use Rattle.form_formula.specs.Trees.{Formula}
use Rattle.form_formula.specs.Truth.{entry, element_of, relates, both_pass}
use Rattle.form_terms.specs.GroundTerms.{GroundTerm, GroundTerms, constant, skolem, field, no_terms, term_and, sort_of, record_sort}
use Rattle.form_terms.specs.Parts.{Variable}
use Rattle.form_terms.specs.Universe.{HasEach, is_needed}
use Rattle.form_terms.specs.Passing.{Choice, IsChoice, element_named, elements_named}
use Rattle.form_terms.specs.Structures.{IsStructure, IsValueOf, IsEntryOf, size_of}
use Rattle.form_tables.specs.Vocabulary.{Vocabulary, IsVocabulary, IsFunctionAt, IsOther, told}
use Rattle.form_tables.specs.Table.{Table, IsSame, AreSame, is_there}
use Rattle.form_tables.specs.Consistent.{IsConsistent, IsOfRange, range_of}
use Rattle.form_tables.specs.Made.{table_of, value_in}
use Rattle.form_tables.proofs.Own.{element_value, value_element}

-- what is told of functions is of those at terms that name elements
pub told_function : (g : Signature) (f : Formula) (terms : List GroundTerm) (v : Vocabulary) → IsVocabulary g f terms v → (h : ℕ) (t : GroundTerm)
    → Contains (told v) (field h t) → IsFunctionAt g v h t
told_function g f terms v words h t c =
    elim (Contains-append_cases v.named v.others (field h t) c) [
      | inl here ↦ words.formed (field h t) here
      | inr here ↦ words.functions (field h t) here
    ]

some_not_none : {A B : Type 0} (x : A) → Some x ≡ None → B
some_not_none x e = cc

pub is_some_value : {A : Type 0} (o : Option A) → is_some o ≡ true → (x : A) × (o ≡ Some x)
is_some_value None e = cc
is_some_value (Some x) e = (x, refl)

pub is_some_from : {A : Type 0} (o : Option A) (x : A) → o ≡ Some x → is_some o ≡ true
is_some_from o x e = ap is_some e

pub to_of_range : (s : Structure) (range : Range) (w : SVal) → IsValueOf s range w → IsOfRange range w
to_of_range s (kinds.Rec sort) (Rec x) h = tt
to_of_range s (kinds.Rec sort) (Flag b) h = h
to_of_range s (kinds.Rec sort) (Num n) h = h
to_of_range s (kinds.Rec sort) (Str t) h = h
to_of_range s kinds.Flag (Rec x) h = h
to_of_range s kinds.Flag (Flag b) h = tt
to_of_range s kinds.Flag (Num n) h = h
to_of_range s kinds.Flag (Str t) h = h
to_of_range s kinds.Num (Rec x) h = h
to_of_range s kinds.Num (Flag b) h = h
to_of_range s kinds.Num (Num n) h = h
to_of_range s kinds.Num (Str t) h = h
to_of_range s kinds.Str (Rec x) h = h
to_of_range s kinds.Str (Flag b) h = h
to_of_range s kinds.Str (Num n) h = h
to_of_range s kinds.Str (Str t) h = h

more_than_none : (n x : ℕ) → x < n → (n == 0) ≡ false
more_than_none n x h = elim (eqb_tells n 0) [ inl p ↦ absurd (omega (arith, p.1, h)) | inr p ↦ p.0 ]

some_there : (n : ℕ) → (n == 0) ≡ false → 0 < n
some_there zero e = cc
some_there (suc n) e = omega arith

module _ (g : Signature) (f : Formula) (s : Structure) (c : Choice) (terms : List GroundTerm) (v : Vocabulary)
    (structure : IsStructure g s) (fits : IsChoice g s f c) (words : IsVocabulary g f terms v) where
  abbrev table : Table
  table = table_of s c

  abbrev named : GroundTerm → Option ℕ
  named t = element_named s c t

  -- the sort of a function at a term is that of its values
  sort_to : (h sort : ℕ) (t : GroundTerm) (sig : FunSig) → IsFunction g h sig → sort_of g (field h t) ≡ Some sort → sig.to ≡ kinds.Rec sort
  sort_to h sort t sig there e =
      let kind : record_sort sig.to ≡ Some sort = sym (ap (option_and_then (λ sig. record_sort sig.to)) there) ∙ e in
      own sig.to kind
    where
      own : (to : Range) → record_sort to ≡ Some sort → to ≡ kinds.Rec sort
      own (kinds.Rec n) e = let same : n ≡ sort = cc in ap (λ n. kinds.Rec n) same
      own kinds.Flag e = cc
      own kinds.Num e = cc
      own kinds.Str e = cc

  entry_value : (sig : FunSig) (o : Option SVal) (w : SVal) → IsEntryOf s sig o → o ≡ Some w → IsValueOf s sig.to w
  entry_value sig None w h e = cc
  entry_value sig (Some u) w h e = let same : u ≡ w = cc in let P : SVal → Type 0 = λ w. IsValueOf s sig.to w in subst P same h

  abbrev IsWithin : GroundTerm → Type 0
  IsWithin t = (sort x : ℕ) → sort_of g t ≡ Some sort → named t ≡ Some x → x < size_of s sort

  -- what a function has at a term
  function_value : (h : ℕ) (t : GroundTerm) (sig : FunSig) (w : SVal) → IsFunction g h sig → sort_of g t ≡ Some sig.from → IsWithin t
      → value_in s c (field h t) ≡ Some w → IsValueOf s sig.to w
  function_value h t sig w there kind inside e =
      option_and_then_some (entry s h) (named t) w e (λ x p q. entry_value sig (entry s h x) w (structure.values h sig x there (inside sig.from x kind p)) q)

  value_within : (w : SVal) (sort x : ℕ) → IsValueOf s (kinds.Rec sort) w → element_of w ≡ Some x → x < size_of s sort
  value_within (Rec y) sort x h e = let same : y ≡ x = cc in let P : ℕ → Type 0 = λ y. y < size_of s sort in subst P same h
  value_within (Flag b) sort x h e = cc
  value_within (Num n) sort x h e = cc
  value_within (Str t) sort x h e = cc

  sort_value : (to : Range) (sort : ℕ) (w : SVal) → to ≡ kinds.Rec sort → IsValueOf s to w → IsValueOf s (kinds.Rec sort) w
  sort_value to sort w e h = let P : Range → Type 0 = λ to. IsValueOf s to w in subst P e h

  -- terms name elements of their sorts
  pub inside : (t : GroundTerm) → Contains v.named t → IsWithin t
  inside (constant sort) there = λ sort' x kind e.
      let same : sort ≡ sort' = cc in
      let P : ℕ → Type 0 = λ n. x < size_of s n in
      subst P same (fits.constants sort x e)
  inside (skolem number sort ts) there = λ sort' x kind e.
      let own = words.formed (skolem number sort ts) there in
      let same : sort ≡ sort' = cc in
      let P : ℕ → Type 0 = λ n. x < size_of s n in
      let variable : Variable = record { number = number; sort = sort; above = own.0 } in
      subst P same (option_and_then_some (c.variable number) (elements_named s c ts) x e (λ xs p q. fits.variables variable xs x own.1 q))
  inside (field h t) there = λ sort x kind e.
      let (sig, function, source, below) = words.formed (field h t) there in
      option_and_then_some element_of (value_in s c (field h t)) x e (λ w p q.
      value_within w sort x
      (sort_value sig.to sort w (sort_to h sort t sig function kind) (function_value h t sig w function source (inside t below) p)) q)

  -- and have them as values
  named_value : (t : GroundTerm) (w : SVal) → Contains v.named t → value_in s c t ≡ Some w → (x : ℕ) × (named t ≡ Some x)
  named_value (constant sort) w there e = own (c.constant sort) e
    where
      own : (o : Option ℕ) → option_map (λ x. Rec x) o ≡ Some w → (x : ℕ) × (o ≡ Some x)
      own None e = cc
      own (Some x) e = (x, refl)
  named_value (skolem number sort ts) w there e = own (named (skolem number sort ts)) e
    where
      own : (o : Option ℕ) → option_map (λ x. Rec x) o ≡ Some w → (x : ℕ) × (o ≡ Some x)
      own None e = cc
      own (Some x) e = (x, refl)
  named_value (field h t) w there e =
      let (sig, function, source, below) = words.formed (field h t) there in
      let (sort, kind) = words.sorted (field h t) there in
      let value = sort_value sig.to sort w (sort_to h sort t sig function kind) (function_value h t sig w function source (inside t below) e) in
      let found = own sort w value in
      (found.0, ap (option_and_then element_of) e ∙ found.1)
    where
      own : (n : ℕ) (w : SVal) → IsValueOf s (kinds.Rec n) w → (x : ℕ) × (element_of w ≡ Some x)
      own n (Rec x) h = (x, refl)
      own n (Flag b) h = absurd h
      own n (Num m) h = absurd h
      own n (Str t) h = absurd h

  same_elements : (t u : GroundTerm) → IsSame table t u → named t ≡ named u
  same_elements t u (x, p, q) = element_value s c t ∙ (ap (option_and_then element_of) (p ∙ sym q) ∙ sym (element_value s c u))

  all_same : (ts us : GroundTerms) → AreSame table ts us → elements_named s c ts ≡ elements_named s c us
  all_same no_terms no_terms h = refl
  all_same no_terms (term_and u us) h = absurd h
  all_same (term_and t ts) no_terms h = absurd h
  all_same (term_and t ts) (term_and u us) h =
      ap (λ xs. option_and_then (λ x. option_map (λ xs. x ∷ xs) xs) (named t)) (all_same ts us h.1)
      ∙ ap (option_and_then (λ x. option_map (λ xs. x ∷ xs) (elements_named s c us))) (same_elements t u h.0)

  there_from : (t : GroundTerm) (x : ℕ) → named t ≡ Some x → is_there table t ≡ true
  there_from t x e = ap is_some (value_element s c t x e)

  map_some : {A B : Type 0} (h : A → B) (o : Option A) (y : B) → option_map h o ≡ Some y → (x : A) × (o ≡ Some x)
  map_some h None y e = cc
  map_some h (Some x) y e = (x, refl)

  all_there : (ts : GroundTerms) (xs : List ℕ) → elements_named s c ts ≡ Some xs → HasEach (λ t. is_there table t ≡ true) ts
  all_there no_terms xs e = tt
  all_there (term_and t ts) xs e =
      option_and_then_some (λ x. option_map (λ xs. x ∷ xs) (elements_named s c ts)) (named t) xs e (λ x p q.
      let rest = map_some (λ xs. x ∷ xs) (elements_named s c ts) xs q in
      (there_from t x p, all_there ts rest.0 rest.1))

  -- both elements are there where a relation holds
  related_some : (r : ℕ) (a b : Option ℕ) → both_pass (relates s r) a b ≡ true → ((x : ℕ) × (a ≡ Some x)) × ((y : ℕ) × (b ≡ Some y))
  related_some r None b e = cc
  related_some r (Some x) None e = cc
  related_some r (Some x) (Some y) e = ((x, refl), (y, refl))

  told_value : (h : ℕ) (t : GroundTerm) → (found : IsFunctionAt g v h t) → (w : SVal) → value_in s c (field h t) ≡ Some w → IsValueOf s found.0.to w
  told_value h t (sig, function, source, below) w e = function_value h t sig w function source (inside t below) e

  typed : (t : GroundTerm) (range : Range) (w : SVal) → Contains (told v) t → range_of g t ≡ Some range → value_in s c t ≡ Some w → IsOfRange range w
  typed (constant sort) range w there kind e = own (c.constant sort) e
    where
      own : (o : Option ℕ) → option_map (λ x. Rec x) o ≡ Some w → IsOfRange range w
      own None e = cc
      own (Some x) e =
          let a : kinds.Rec sort ≡ range = cc in
          let b : Rec x ≡ w = cc in
          let P : Range → Type 0 = λ r. IsOfRange r (Rec x) in
          let Q : SVal → Type 0 = λ w. IsOfRange range w in
          subst Q b (subst P a tt)
  typed (skolem number sort ts) range w there kind e = own (named (skolem number sort ts)) e
    where
      own : (o : Option ℕ) → option_map (λ x. Rec x) o ≡ Some w → IsOfRange range w
      own None e = cc
      own (Some x) e =
          let a : kinds.Rec sort ≡ range = cc in
          let b : Rec x ≡ w = cc in
          let P : Range → Type 0 = λ r. IsOfRange r (Rec x) in
          let Q : SVal → Type 0 = λ w. IsOfRange range w in
          subst Q b (subst P a tt)
  typed (field h t) range w there kind e =
      let found = told_function g f terms v words h t there in
      let sig : FunSig = found.0 in
      let a : Some sig.to ≡ Some range = sym (ap (option_map (λ sig. sig.to)) found.1) ∙ kind in
      let b : sig.to ≡ range = cc in
      let P : Range → Type 0 = λ r. IsOfRange r w in
      subst P b (to_of_range s sig.to w (told_value h t found w e))

  entry_there : (sig : FunSig) (o : Option SVal) → IsEntryOf s sig o → sig.partial ≡ false → is_some o ≡ true
  entry_there sig None h e = cc
  entry_there sig (Some w) h e = refl

  constant_there : (sort : ℕ) → IsTrue (is_needed g f sort) → is_some (option_map (λ x. Rec x) (c.constant sort)) ≡ not (size_of s sort == 0)
  constant_there sort needed = choose (c.constant sort) refl
    where
      choose : (o : Option ℕ) → c.constant sort ≡ o → is_some (option_map (λ x. Rec x) o) ≡ not (size_of s sort == 0)
      choose (Some x) e = sym (ap not (more_than_none (size_of s sort) x (fits.constants sort x e)))
      choose None e =
          elim (eqb_tells (size_of s sort) 0) [
            | inl p ↦ sym (ap not p.0)
            | inr p ↦
                let found = fits.needed sort needed (some_there (size_of s sort) p.0) in
                some_not_none found.0 (sym found.1 ∙ e)
          ]

  total_there : (h : ℕ) (sig : FunSig) (t : GroundTerm) → Contains (told v) (field h t) → IsFunction g h sig → sig.partial ≡ false
      → is_there table t ≡ true → is_there table (field h t) ≡ true
  total_there h sig t there function total e =
      let found = told_function g f terms v words h t there in
      let own : Some found.0 ≡ Some sig = sym found.1 ∙ function in
      let same : found.0 ≡ sig = cc in
      let value = is_some_value (value_in s c t) e in
      let element = named_value t value.0 found.3 value.1 in
      let x : ℕ = element.0 in
      let kind : sort_of g t ≡ Some sig.from = found.2 ∙ ap (λ sig. Some sig.from) same in
      let alive = entry_there sig (entry s h x) (structure.values h sig x function (inside t found.3 sig.from x kind element.1)) total in
      ap (λ o. is_some (option_and_then (entry s h) o)) element.1 ∙ alive

  inhabited : (t : GroundTerm) (sort : ℕ) → Contains (told v) t → sort_of g t ≡ Some sort → is_there table t ≡ true → (size_of s sort == 0) ≡ false
  inhabited t sort there kind e =
      elim (Contains-append_cases v.named v.others t there) [
        | inl here ↦
            let value = is_some_value (value_in s c t) e in
            let element = named_value t value.0 here value.1 in
            more_than_none (size_of s sort) element.0 (inside t here sort element.0 kind element.1)
        | inr here ↦ other t (words.functions t here) kind e
      ]
    where
      in_sort : (w : SVal) → IsValueOf s (kinds.Rec sort) w → (size_of s sort == 0) ≡ false
      in_sort (Rec x) h = more_than_none (size_of s sort) x h
      in_sort (Flag b) h = absurd h
      in_sort (Num n) h = absurd h
      in_sort (Str t) h = absurd h

      other : (t : GroundTerm) → IsOther g v t → sort_of g t ≡ Some sort → is_there table t ≡ true → (size_of s sort == 0) ≡ false
      other (constant n) h kind e = absurd h
      other (skolem number n ts) h kind e = absurd h
      other (field k t) found kind e =
          let value = is_some_value (value_in s c (field k t)) e in
          in_sort value.0 (sort_value found.0.to sort value.0 (sort_to k sort t found.0 found.1 kind) (told_value k t found value.0 value.1))

  followed : (h : ℕ) (sig : FunSig) (sort : ℕ) → IsFunction g h sig → sig.partial ≡ false → sig.to ≡ kinds.Rec sort
      → (size_of s sig.from == 0) ≡ false → (size_of s sort == 0) ≡ false
  followed h sig sort function total to e =
      let entries = structure.values h sig 0 function (some_there (size_of s sig.from) e) in
      let value = is_some_value (entry s h 0) (entry_there sig (entry s h 0) entries total) in
      in_sort value.0 (sort_value sig.to sort value.0 to (entry_value sig (entry s h 0) value.0 entries value.1))
    where
      in_sort : (w : SVal) → IsValueOf s (kinds.Rec sort) w → (size_of s sort == 0) ≡ false
      in_sort (Rec x) h = more_than_none (size_of s sort) x h
      in_sort (Flag b) h = absurd h
      in_sort (Num n) h = absurd h
      in_sort (Str t) h = absurd h

  pub sound : IsConsistent g v table
  sound = record {
    typed = typed;
    functions = record {
      within = λ h t there e.
          let value = is_some_value (value_in s c (field h t)) e in
          option_and_then_some (entry s h) (named t) value.0 value.1 (λ x p q. there_from t x p);
      total = total_there;
      alike = λ h t u p q same. ap (λ o. is_some (option_and_then (entry s h) o)) (same_elements t u same);
      same = λ h t u p q same. ap (option_and_then (entry s h)) (same_elements t u same);
    };
    variables = record {
      within = λ number sort ts there e.
          let value = is_some_value (value_in s c (skolem number sort ts)) e in
          let element = map_some (λ x. Rec x) (named (skolem number sort ts)) value.0 value.1 in
          option_and_then_some (c.variable number) (elements_named s c ts) element.0 element.1 (λ xs p q. all_there ts xs p);
      same = λ number sort ts us p q same. ap (λ xs. option_map (λ x. Rec x) (option_and_then (c.variable number) xs)) (all_same ts us same);
    };
    relations = record {
      within = λ p there e.
          let both = related_some p.relation (named p.holder) (named p.member) e in
          (there_from p.holder both.0.0 both.0.1, there_from p.member both.1.0 both.1.1);
      same = λ p q a b relation holders members.
          ap (λ r. both_pass (relates s r) (named p.holder) (named p.member)) relation
          ∙ (ap (λ o. both_pass (relates s q.relation) o (named p.member)) (same_elements p.holder q.holder holders)
          ∙ ap (both_pass (relates s q.relation) (named q.holder)) (same_elements p.member q.member members));
    };
    sorts = record {
      constants = λ sort there. constant_there sort (words.formed (constant sort) there);
      inhabited = inhabited;
      followed = followed;
    };
  }

  -- a term that names an element is there just where it names one
  pub named_there : (t : GroundTerm) → Contains v.named t → is_there table t ≡ is_some (named t)
  named_there t there = choose (value_in s c t) refl
    where
      choose : (o : Option SVal) → value_in s c t ≡ o → is_some o ≡ is_some (named t)
      choose None e = sym (ap is_some (element_value s c t ∙ ap (option_and_then element_of) e))
      choose (Some w) e = sym (is_some_from (named t) (named_value t w there e).0 (named_value t w there e).1)
