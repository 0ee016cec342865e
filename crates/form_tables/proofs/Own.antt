-- A structure agrees with its own table.
use Rattle.std.proofs.Common.{◌≡◌, ℕ, zero, suc, inl, inr, refl, sym, ◌∙◌, List, [], ◌∷◌, Some, None, Option, ap, subst, slice_get, Contains}
use Rattle.std.proofs.lemmas.List.Elements.{Contains-append_cases}
use Rattle.std.specs.Prelude.{option_and_then, is_some, int_lt}
use Rattle.std.specs.Option.{option_map}
use Rattle.form_formula.specs.declared.structure.Range.{Range}
use Rattle.form_formula.specs.declared.structure.Range.TheVariants as kinds
use Rattle.form_formula.specs.declared.structure.Signature.{Signature}
use Rattle.form_formula.specs.declared.structure.Structure.{Structure}
use Rattle.form_formula.specs.declared.structure.SVal.{SVal}
use Rattle.form_formula.specs.declared.structure.SVal.TheVariants.{Rec, Flag, Num, Str}
use Rattle.form_formula.specs.Over.{HasRange, IsOver}
use Rattle.form_formula.specs.Trees.{Term, Formula, bound, num, str, app, yes, no, equal, less, has, flag, present, negation, both, either, exists, forall}
use Rattle.form_formula.specs.Truth.{truth, value_of, entry, element_of, number_of, are_equal, both_pass, is_true_value, relates}
use Rattle.form_formula.specs.NormalForm.{IsAtom}
use Rattle.form_terms.specs.GroundTerms.{GroundTerm, constant, skolem, field}
use Rattle.form_terms.specs.Passing.{Choice, element_named}
use Rattle.form_terms.specs.Reading.{Agree, AreNamed, atoms_of}
use Rattle.form_terms.proofs.Lists.{Contains-cons_cases, Contains-none}
use Rattle.form_tables.specs.Vocabulary.{term_at}
use Rattle.form_tables.specs.Table.{holds, value_at}
use Rattle.form_tables.specs.Made.{value_in, table_of}

module _ (s : Structure) (c : Choice) where
  of_element : (o : Option ℕ) → o ≡ option_and_then element_of (option_map (λ x. Rec x) o)
  of_element None = refl
  of_element (Some x) = refl

  -- the element that a term names is its value, if that is an element
  pub element_value : (t : GroundTerm) → element_named s c t ≡ option_and_then element_of (value_in s c t)
  element_value (constant sort) = of_element (element_named s c (constant sort))
  element_value (skolem number sort ts) = of_element (element_named s c (skolem number sort ts))
  element_value (field h t) = refl

  is_element : (v : SVal) (x : ℕ) → element_of v ≡ Some x → v ≡ Rec x
  is_element (Rec y) x e = let same : y ≡ x = cc in ap (λ y. Rec y) same
  is_element (Flag b) x e = cc
  is_element (Num n) x e = cc
  is_element (Str t) x e = cc

  from_element : (o : Option SVal) (x : ℕ) → option_and_then element_of o ≡ Some x → o ≡ Some (Rec x)
  from_element None x e = cc
  from_element (Some v) x e = ap (λ v. Some v) (is_element v x e)

  pub value_element : (t : GroundTerm) (x : ℕ) → element_named s c t ≡ Some x → value_in s c t ≡ Some (Rec x)
  value_element t x e = from_element (value_in s c t) x (sym (element_value t) ∙ e)

  module _ (g : Signature) (spoken : List GroundTerm) where
    named_at : (scope : List ℕ) (env : List GroundTerm) (xs : List ℕ) (depth sort : ℕ) → AreNamed g s c spoken scope env xs → slice_get scope depth ≡ Some sort
        → (t : GroundTerm) × (x : ℕ) × (slice_get env depth ≡ Some t) × (slice_get xs depth ≡ Some x) × (element_named s c t ≡ Some x)
    named_at [] [] [] depth sort h e = cc
    named_at [] [] (x ∷ xs) depth sort h e = absurd h
    named_at [] (t ∷ env) xs depth sort h e = absurd h
    named_at (r ∷ scope) [] xs depth sort h e = absurd h
    named_at (r ∷ scope) (t ∷ env) [] depth sort h e = absurd h
    named_at (r ∷ scope) (t ∷ env) (x ∷ xs) zero sort h e = (t, x, refl, refl, h.0.2)
    named_at (r ∷ scope) (t ∷ env) (x ∷ xs) (suc depth) sort h e = named_at scope env xs depth sort h.1 e

    module _ (scope : List ℕ) (env : List GroundTerm) (xs : List ℕ) (named : AreNamed g s c spoken scope env xs) where
      -- a record term is a ground term, which names its element
      record_at : (t : Term) (sort : ℕ) → HasRange g scope t (kinds.Rec sort)
          → (u : GroundTerm) × (term_at env t ≡ Some u) × (element_named s c u ≡ option_and_then element_of (value_of s xs t))
      record_at (bound sort' depth) sort h =
          let found = named_at scope env xs depth sort' named h.0 in
          let value : value_of s xs (bound sort' depth) ≡ Some (Rec found.1) = ap (option_map (λ x. Rec x)) found.3 in
          (found.0, found.2, found.4 ∙ sym (ap (option_and_then element_of) value))
      record_at (num n) sort h = cc
      record_at (str w) sort h = cc
      record_at (app h t) sort (sig, there, inner, e) =
          let found = record_at t sig.from inner in
          (field h found.0, ap (option_map (field h)) found.1, ap (λ o. option_and_then element_of (option_and_then (entry s h) o)) found.2)

      -- a function at a record term
      function_at : (h : ℕ) (t : Term) (sort : ℕ) → HasRange g scope t (kinds.Rec sort) → value_at (table_of s c) env (app h t) ≡ value_of s xs (app h t)
      function_at h t sort inner =
          let found = record_at t sort inner in
          ap (λ o. option_and_then (value_in s c) (option_map (field h) o)) found.1 ∙ ap (option_and_then (entry s h)) found.2

      same_value : (t : Term) (range : Range) → HasRange g scope t range → value_at (table_of s c) env t ≡ value_of s xs t
      same_value (bound sort depth) range h =
          let found = named_at scope env xs depth sort named h.0 in
          ap (option_and_then (value_in s c)) found.2 ∙ (value_element found.0 found.1 found.4 ∙ sym (ap (option_map (λ x. Rec x)) found.3))
      same_value (num n) range h = refl
      same_value (str w) range h = refl
      same_value (app h t) range (sig, there, inner, e) = function_at h t sig.from inner

      atom_same : (a : Formula) → IsAtom a → IsOver g scope a → holds (table_of s c) env a ≡ truth s xs a
      atom_same yes atom h = absurd atom
      atom_same no atom h = absurd atom
      atom_same (equal t u) atom (range, alike, p, q) =
          let left = same_value t range p in
          let right = same_value u range q in
          ap (λ o. both_pass are_equal o (value_at (table_of s c) env u)) left ∙ ap (both_pass are_equal (value_of s xs t)) right
      atom_same (less t u) atom (p, q) =
          let left = ap (option_and_then number_of) (same_value t kinds.Num p) in
          let right = ap (option_and_then number_of) (same_value u kinds.Num q) in
          ap (λ o. both_pass int_lt o (option_and_then number_of (value_at (table_of s c) env u))) left
          ∙ ap (both_pass int_lt (option_and_then number_of (value_of s xs t))) right
      atom_same (has r t u) atom (sig, there, p, q) =
          let left = record_at t sig.from p in
          let right = record_at u sig.to q in
          ap (λ o. both_pass ((table_of s c).has r) o (term_at env u)) left.1
          ∙ (ap (both_pass ((table_of s c).has r) (Some left.0)) right.1
          ∙ (ap (λ o. both_pass (relates s r) o (element_named s c right.0)) left.2
          ∙ ap (both_pass (relates s r) (option_and_then element_of (value_of s xs t))) right.2))
      atom_same (flag h t) atom (sig, there, p, to) = ap is_true_value (function_at h t sig.from p)
      atom_same (present h t) atom (sig, there, p) = ap is_some (function_at h t sig.from p)
      atom_same (negation a) atom h = absurd atom
      atom_same (both a b) atom h = absurd atom
      atom_same (either a b) atom h = absurd atom
      atom_same (exists sort a) atom h = absurd atom
      atom_same (forall sort a) atom h = absurd atom

-- the atoms of a formula are atoms
only_atom : (b a : Formula) → IsAtom b → Contains (b ∷ []) a → IsAtom a
only_atom b a h c = elim (Contains-cons_cases b [] a c) [ inl e ↦ subst IsAtom e h | inr none ↦ Contains-none a none ]

atoms_are : (f a : Formula) → Contains (atoms_of f) a → IsAtom a
atoms_are yes a c = Contains-none a c
atoms_are no a c = Contains-none a c
atoms_are (equal t u) a c = only_atom (equal t u) a tt c
atoms_are (less t u) a c = only_atom (less t u) a tt c
atoms_are (has r t u) a c = only_atom (has r t u) a tt c
atoms_are (flag h t) a c = only_atom (flag h t) a tt c
atoms_are (present h t) a c = only_atom (present h t) a tt c
atoms_are (negation b) a c = atoms_are b a c
atoms_are (both b d) a c = elim (Contains-append_cases (atoms_of b) (atoms_of d) a c) [ inl h ↦ atoms_are b a h | inr h ↦ atoms_are d a h ]
atoms_are (either b d) a c = elim (Contains-append_cases (atoms_of b) (atoms_of d) a c) [ inl h ↦ atoms_are b a h | inr h ↦ atoms_are d a h ]
atoms_are (exists sort b) a c = atoms_are b a c
atoms_are (forall sort b) a c = atoms_are b a c

-- whatever the terms
pub own_table : (g : Signature) (f : Formula) (s : Structure) (c : Choice) (spoken : List GroundTerm)
    → Agree g f s c spoken (λ t. is_some (element_named s c t)) (holds (table_of s c))
own_table g f s c spoken = record {
  there = λ t listed. refl;
  atoms = λ a scope env xs own over named. atom_same s c g spoken scope env xs named a (atoms_are f a own) over;
}
