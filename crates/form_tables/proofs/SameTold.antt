-- Tables that differ at terms alone of which nothing is told.
use Rattle.std.proofs.Common.{◌≡◌, ℕ, zero, suc, true, refl, sym, ◌∙◌, List, [], ◌∷◌, Some, None, Option, ap, subst, slice_get, Contains}
use Rattle.std.specs.Prelude.{is_some, int_lt, option_and_then}
use Rattle.std.proofs.lemmas.List.Elements.{Contains-append_left}
use Rattle.form_formula.specs.declared.structure.Signature.{Signature}
use Rattle.form_formula.specs.declared.structure.SVal.{SVal}
use Rattle.form_formula.specs.Over.{IsOver}
use Rattle.form_formula.specs.Trees.{Term, Formula, bound, num, str, app, yes, no, equal, less, has, flag, present, negation, both, either, exists, forall}
use Rattle.form_formula.specs.Truth.{are_equal, both_pass, number_of, is_true_value}
use Rattle.form_terms.specs.GroundTerms.{GroundTerm, GroundTerms, constant, skolem, field, no_terms, term_and, sort_of}
use Rattle.form_terms.specs.Universe.{HasEach}
use Rattle.form_terms.specs.Reading.{Reads}
use Rattle.form_tables.specs.Vocabulary.{Vocabulary, IsVocabulary, IsValued, IsValuedIn, CoversTerm, CoversAtom, term_at, told}
use Rattle.form_tables.specs.Table.{Table, is_there, IsSame, AreSame, holds, value_at}
use Rattle.form_tables.specs.Consistent.{IsConsistent}
use Rattle.form_tables.proofs.Sound.{told_function}
use Rattle.form_tables.proofs.Transfer.{AreTerms}

env_named : (g : Signature) (terms : List GroundTerm) (scope : List ℕ) (env : List GroundTerm) (depth : ℕ) (t : GroundTerm) → AreTerms g terms scope env
    → slice_get env depth ≡ Some t → Contains terms t
env_named g terms [] [] depth t h e = cc
env_named g terms [] (u ∷ env) depth t h e = absurd h
env_named g terms (s ∷ scope) [] depth t h e = absurd h
env_named g terms (s ∷ scope) (u ∷ env) zero t h e = let same' : u ≡ t = cc in let P : GroundTerm → Type 0 = λ t. Contains terms t in subst P same' h.0.0
env_named g terms (s ∷ scope) (u ∷ env) (suc depth) t h e = env_named g terms scope env depth t h.1 e

abbrev pub with_values : Table → (GroundTerm → Option SVal) → Table
with_values table values = record { value = values; has = table.has; is_empty = table.is_empty }

module _ (g : Signature) (f : Formula) (terms : List GroundTerm) (v : Vocabulary) (words : IsVocabulary g f terms v) (table : Table)
    (values : GroundTerm → Option SVal) (alike : (t : GroundTerm) → Contains (told v) t → table.value t ≡ values t) where
  abbrev new : Table
  new = with_values table values

  named_told : (t : GroundTerm) → Contains v.named t → Contains (told v) t
  named_told t c = Contains-append_left v.named v.others t c

  valued_told : (t : GroundTerm) → IsValued g v t → Contains (told v) t
  valued_told t h = choose (sort_of g t) h
    where
      choose : (o : Option ℕ) → IsValuedIn g v o t → Contains (told v) t
      choose None h = h
      choose (Some sort) h = named_told t h

  there_alike : (t : GroundTerm) → Contains (told v) t → is_there table t ≡ is_there new t
  there_alike t c = ap is_some (alike t c)

  to_new : (t : GroundTerm) → Contains (told v) t → is_there table t ≡ true → is_there new t ≡ true
  to_new t c e = sym (there_alike t c) ∙ e

  to_old : (t : GroundTerm) → Contains (told v) t → is_there new t ≡ true → is_there table t ≡ true
  to_old t c e = there_alike t c ∙ e

  argument : (h : ℕ) (t : GroundTerm) → Contains (told v) (field h t) → Contains (told v) t
  argument h t c = named_told t (told_function g f terms v words h t c).3

  old_same : (t u : GroundTerm) → Contains (told v) t → Contains (told v) u → IsSame new t u → IsSame table t u
  old_same t u c d (x, p, q) = (x, alike t c ∙ p, alike u d ∙ q)

  all_old : (ts us : GroundTerms) → HasEach (Contains v.named) ts → HasEach (Contains v.named) us → AreSame new ts us → AreSame table ts us
  all_old no_terms no_terms a b h = tt
  all_old no_terms (term_and u us) a b h = absurd h
  all_old (term_and t ts) no_terms a b h = absurd h
  all_old (term_and t ts) (term_and u us) a b h = (old_same t u (named_told t a.0) (named_told u b.0) h.0, all_old ts us a.1 b.1 h.1)

  all_new : (ts : GroundTerms) → HasEach (Contains v.named) ts → HasEach (λ t. is_there table t ≡ true) ts → HasEach (λ t. is_there new t ≡ true) ts
  all_new no_terms a h = tt
  all_new (term_and t ts) a h = (to_new t (named_told t a.0) h.0, all_new ts a.1 h.1)

  arguments_named : (number sort : ℕ) (ts : GroundTerms) → Contains v.named (skolem number sort ts) → HasEach (Contains v.named) ts
  arguments_named number sort ts c = (words.formed (skolem number sort ts) c).3

  pub consistent_also : IsConsistent g v table → IsConsistent g v new
  consistent_also fits = record {
    typed = λ t range x c kind e. fits.typed t range x c kind (alike t c ∙ e);
    functions = record {
      within = λ h t c e. to_new t (argument h t c) (fits.functions.within h t c (to_old (field h t) c e));
      total = λ h sig t c function partial e. to_new (field h t) c (fits.functions.total h sig t c function partial (to_old t (argument h t c) e));
      alike = λ h t u c d same.
          sym (there_alike (field h t) c)
          ∙ (fits.functions.alike h t u c d (old_same t u (argument h t c) (argument h u d) same) ∙ there_alike (field h u) d);
      same = λ h t u p q same.
          let c = valued_told (field h t) p in
          let d = valued_told (field h u) q in
          sym (alike (field h t) c) ∙ (fits.functions.same h t u p q (old_same t u (argument h t c) (argument h u d) same) ∙ alike (field h u) d);
    };
    variables = record {
      within = λ number sort ts c e.
          all_new ts (arguments_named number sort ts c)
          (fits.variables.within number sort ts c (to_old (skolem number sort ts) (named_told (skolem number sort ts) c) e));
      same = λ number sort ts us c d same.
          sym (alike (skolem number sort ts) (named_told (skolem number sort ts) c))
          ∙ (fits.variables.same number sort ts us c d (all_old ts us (arguments_named number sort ts c) (arguments_named number sort us d) same)
          ∙ alike (skolem number sort us) (named_told (skolem number sort us) d));
    };
    relations = record {
      within = λ p c e.
          let (sig, there, holder-kind, holder-named, member-kind, member-named) = words.related p c in
          let alive = fits.relations.within p c e in
          (to_new p.holder (named_told p.holder holder-named) alive.0, to_new p.member (named_told p.member member-named) alive.1);
      same = λ p q c d relation holders members.
          let (sig, there, holder-kind, holder-named, member-kind, member-named) = words.related p c in
          let (sig', there', holder-kind', holder-named', member-kind', member-named') = words.related q d in
          fits.relations.same p q c d relation
          (old_same p.holder q.holder (named_told p.holder holder-named) (named_told q.holder holder-named') holders)
          (old_same p.member q.member (named_told p.member member-named) (named_told q.member member-named') members);
    };
    sorts = record {
      constants = λ sort c. sym (there_alike (constant sort) (named_told (constant sort) c)) ∙ fits.sorts.constants sort c;
      inhabited = λ t sort c kind e. fits.sorts.inhabited t sort c kind (to_old t c e);
      followed = fits.sorts.followed;
    };
  }

  -- values of terms of the formula
  module _ (scope : List ℕ) (env : List GroundTerm) (above : AreTerms g v.named scope env) where
    at_told : (o : Option GroundTerm) → ((x : GroundTerm) → o ≡ Some x → Contains (told v) x) → option_and_then table.value o ≡ option_and_then values o
    at_told None h = refl
    at_told (Some x) h = alike x (h x refl)

    value_also : (t : Term) → CoversTerm g v env t → value_at table env t ≡ value_at new env t
    value_also (bound sort depth) covers = at_told (slice_get env depth) (λ x e. named_told x (env_named g v.named scope env depth x above e))
    value_also (num n) covers = refl
    value_also (str w) covers = refl
    value_also (app h t) covers = at_told (term_at env (app h t)) (λ x e. valued_told x (covers.1 x e))

    atom_also : (a : Formula) → CoversAtom g v env a → holds table env a ≡ holds new env a
    atom_also yes covers = refl
    atom_also no covers = refl
    atom_also (equal t u) (p, q) =
        ap (λ o. both_pass are_equal o (value_at table env u)) (value_also t p) ∙ ap (both_pass are_equal (value_at new env t)) (value_also u q)
    atom_also (less t u) (p, q) =
        ap (λ o. both_pass int_lt (option_and_then number_of o) (option_and_then number_of (value_at table env u))) (value_also t p)
        ∙ ap (λ o. both_pass int_lt (option_and_then number_of (value_at new env t)) (option_and_then number_of o)) (value_also u q)
    atom_also (has r t u) covers = refl
    atom_also (flag h t) (p, q) = ap is_true_value (at_told (term_at env (app h t)) q)
    atom_also (present h t) (p, q) = ap is_some (at_told (term_at env (app h t)) q)
    atom_also (negation a) covers = refl
    atom_also (both a b) covers = refl
    atom_also (either a b) covers = refl
    atom_also (exists sort a) covers = refl
    atom_also (forall sort a) covers = refl

  pub reads_also : IsOver g [] f → Reads g (is_there table) (holds table) terms 0 [] no_terms f → Reads g (is_there new) (holds new) terms 0 [] no_terms f
  reads_also over r =
      words.decides (is_there table) (is_there new) table new (λ t c. there_alike t (named_told t c))
      (λ a scope env over' above covers. atom_also scope env above a covers) r
