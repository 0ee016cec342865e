-- Atoms of a formula as facts.
use Rattle.std.proofs.Common.{◌≡◌, ℕ, Bool, true, false, ◌&&◌, refl, sym, ◌∙◌, List, [], ◌∷◌, ◌++◌, Some, None, Option, cond, ap, subst, slice_get}
use Rattle.std.specs.Prelude.{option_and_then, int_lt, is_some}
use Rattle.std.specs.List.{list_all}
use Rattle.std.specs.Option.{option_map}
use Rattle.form_formula.specs.declared.structure.SVal.{SVal}
use Rattle.form_formula.specs.Trees.{Term, Formula, bound, num, str, app, yes, no, equal, less, has, flag, present, negation, both, either, exists, forall}
use Rattle.form_formula.specs.Truth.{are_equal, both_pass, number_of, is_raised, is_true_value}
use Rattle.form_terms.specs.GroundTerms.{GroundTerm}
use Rattle.form_tables.specs.Vocabulary.{term_at}
use Rattle.form_tables.specs.Table.{Table, holds, value_at}
use Rattle.form_tables.specs.Facts.{Noun, Fact, Assignment, term, number, text, there, same, below, raised, related, there_of, facts_of_two, facts_of_pair, noun_at, facts_at, table_for, noun_value, is_fact}

and_true : (b : Bool) → b ≡ (b && true)
and_true true = refl
and_true false = refl

all_append : {A : Type 0} (p : A → Bool) (xs ys : List A) → list_all p (xs ++ ys) ≡ (list_all p xs && list_all p ys)
all_append p [] ys = refl
all_append p (x ∷ xs) ys = ap (λ b. p x && b) (all_append p xs ys) ∙ join (p x) (list_all p xs) (list_all p ys)
  where
    join : (x y z : Bool) → (x && (y && z)) ≡ ((x && y) && z)
    join true y z = refl
    join false y z = refl

both_none : {A : Type 0} (test : A → A → Bool) (o : Option A) → both_pass test o None ≡ false
both_none test None = refl
both_none test (Some x) = refl

equal_if : (p q : Bool) (x y : SVal) → both_pass are_equal (cond p (Some x) None) (cond q (Some y) None) ≡ ((p && q) && (are_equal x y && true))
equal_if true true x y = and_true (are_equal x y)
equal_if true false x y = refl
equal_if false q x y = refl

less_if : (p q : Bool) (x y : SVal)
    → both_pass int_lt (option_and_then number_of (cond p (Some x) None)) (option_and_then number_of (cond q (Some y) None))
    ≡ ((p && q) && (both_pass int_lt (number_of x) (number_of y) && true))
less_if true true x y = and_true (both_pass int_lt (number_of x) (number_of y))
less_if true false x y = both_none int_lt (number_of x)
less_if false q x y = refl

module _ (a : Assignment) (env : List GroundTerm) where
  abbrev T : Table
  T = table_for a

  are_facts : List Fact → Bool
  are_facts ps = list_all (is_fact a) ps

  -- the value of a term, by its noun
  noun_is : (t : Term) (x : Noun) → noun_at env t ≡ Some x → value_at T env t ≡ cond (list_all (is_fact a) (there_of x)) (Some (noun_value a x)) None
  noun_is (bound sort depth) x e = own (slice_get env depth) e
    where
      own : (o : Option GroundTerm) → option_map term o ≡ Some x
          → option_and_then T.value o ≡ cond (list_all (is_fact a) (there_of x)) (Some (noun_value a x)) None
      own None e = cc
      own (Some u) e = of_ground x u cc
        where
          of_ground : (x : Noun) (u : GroundTerm) → term u ≡ x → T.value u ≡ cond (list_all (is_fact a) (there_of x)) (Some (noun_value a x)) None
          of_ground x u e =
              let P : Noun → Type 0 = λ x. T.value u ≡ cond (list_all (is_fact a) (there_of x)) (Some (noun_value a x)) None in
              subst P e (ap (λ b. cond b (Some (a.value u)) None) (and_true (a.there u)))
  noun_is (num n) x e =
      let same' : number n ≡ x = cc in
      let P : Noun → Type 0 = λ x. value_at T env (num n) ≡ cond (list_all (is_fact a) (there_of x)) (Some (noun_value a x)) None in
      subst P same' refl
  noun_is (str w) x e =
      let same' : text w ≡ x = cc in
      let P : Noun → Type 0 = λ x. value_at T env (str w) ≡ cond (list_all (is_fact a) (there_of x)) (Some (noun_value a x)) None in
      subst P same' refl
  noun_is (app h t) x e = own (term_at env (app h t)) e
    where
      own : (o : Option GroundTerm) → option_map term o ≡ Some x
          → option_and_then T.value o ≡ cond (list_all (is_fact a) (there_of x)) (Some (noun_value a x)) None
      own None e = cc
      own (Some u) e =
          let same' : term u ≡ x = cc in
          let P : Noun → Type 0 = λ x. T.value u ≡ cond (list_all (is_fact a) (there_of x)) (Some (noun_value a x)) None in
          subst P same' (ap (λ b. cond b (Some (a.value u)) None) (and_true (a.there u)))

  two_are : (fact : Noun → Noun → Fact) (x y : Noun)
      → list_all (is_fact a) (there_of x ++ there_of y ++ fact x y ∷ [])
      ≡ ((list_all (is_fact a) (there_of x) && list_all (is_fact a) (there_of y)) && (is_fact a (fact x y) && true))
  two_are fact x y =
      all_append (is_fact a) (there_of x ++ there_of y) (fact x y ∷ [])
      ∙ ap (λ b. b && (is_fact a (fact x y) && true)) (all_append (is_fact a) (there_of x) (there_of y))

  two_nouns : (fact : Noun → Noun → Fact) (p q : Option Noun) (ps : List Fact) → facts_of_two fact p q ≡ Some ps
      → (x : Noun) × (y : Noun) × (p ≡ Some x) × (q ≡ Some y) × (there_of x ++ there_of y ++ fact x y ∷ [] ≡ ps)
  two_nouns fact None q ps e = cc
  two_nouns fact (Some x) None ps e = cc
  two_nouns fact (Some x) (Some y) ps e = (x, y, refl, refl, cc)

  pair_is : (r : ℕ) (p q : Option GroundTerm) (ps : List Fact) → facts_of_pair r p q ≡ Some ps → both_pass (a.has r) p q ≡ list_all (is_fact a) ps
  pair_is r None q ps e = cc
  pair_is r (Some t) None ps e = cc
  pair_is r (Some t) (Some u) ps e =
      let same' : related (record { relation = r; holder = t; member = u }) ∷ [] ≡ ps = cc in
      and_true (a.has r t u) ∙ ap (list_all (is_fact a)) same'

  flag_if : (p : Bool) (x : SVal) → is_true_value (cond p (Some x) None) ≡ (p && (is_raised x && true))
  flag_if true x = and_true (is_raised x)
  flag_if false x = refl

  flag_is : (o : Option GroundTerm) (ps : List Fact) → option_map (λ x. there x ∷ raised x ∷ []) o ≡ Some ps
      → is_true_value (option_and_then T.value o) ≡ list_all (is_fact a) ps
  flag_is None ps e = cc
  flag_is (Some u) ps e = let same' : there u ∷ raised u ∷ [] ≡ ps = cc in flag_if (a.there u) (a.value u) ∙ ap (list_all (is_fact a)) same'

  some_if : (p : Bool) (x : SVal) → is_some (cond p (Some x) None) ≡ (p && true)
  some_if true x = refl
  some_if false x = refl

  present_is : (o : Option GroundTerm) (ps : List Fact) → option_map (λ x. there x ∷ []) o ≡ Some ps → is_some (option_and_then T.value o) ≡ list_all (is_fact a) ps
  present_is None ps e = cc
  present_is (Some u) ps e = let same' : there u ∷ [] ≡ ps = cc in some_if (a.there u) (a.value u) ∙ ap (list_all (is_fact a)) same'

  pub atom_facts : (b : Formula) (ps : List Fact) → facts_at env b ≡ Some ps → holds T env b ≡ list_all (is_fact a) ps
  atom_facts yes ps e = cc
  atom_facts no ps e = cc
  atom_facts (equal t u) ps e =
      let (x, y, p, q, same') = two_nouns same (noun_at env t) (noun_at env u) ps e in
      ap (λ o. both_pass are_equal o (value_at T env u)) (noun_is t x p)
      ∙ (ap (both_pass are_equal (cond (list_all (is_fact a) (there_of x)) (Some (noun_value a x)) None)) (noun_is u y q)
      ∙ (equal_if (list_all (is_fact a) (there_of x)) (list_all (is_fact a) (there_of y)) (noun_value a x) (noun_value a y)
      ∙ (sym (two_are same x y) ∙ ap (list_all (is_fact a)) same')))
  atom_facts (less t u) ps e =
      let (x, y, p, q, same') = two_nouns below (noun_at env t) (noun_at env u) ps e in
      ap (λ o. both_pass int_lt (option_and_then number_of o) (option_and_then number_of (value_at T env u))) (noun_is t x p)
      ∙ (ap (λ o. both_pass int_lt (option_and_then number_of (cond (list_all (is_fact a) (there_of x)) (Some (noun_value a x)) None)) (option_and_then number_of o)) (noun_is u y q)
      ∙ (less_if (list_all (is_fact a) (there_of x)) (list_all (is_fact a) (there_of y)) (noun_value a x) (noun_value a y)
      ∙ (sym (two_are below x y) ∙ ap (list_all (is_fact a)) same')))
  atom_facts (has r t u) ps e = pair_is r (term_at env t) (term_at env u) ps e
  atom_facts (flag h t) ps e = flag_is (term_at env (app h t)) ps e
  atom_facts (present h t) ps e = present_is (term_at env (app h t)) ps e
  atom_facts (negation b) ps e = cc
  atom_facts (both b d) ps e = cc
  atom_facts (either b d) ps e = cc
  atom_facts (exists sort b) ps e = cc
  atom_facts (forall sort b) ps e = cc
