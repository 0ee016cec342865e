-- What a reading depends on, and that the test says just what the reading does.
use Rattle.std.proofs.Common.{◌≡◌, ℕ, zero, suc, ◌+◌, inl, inr, Bool, true, false, not, ◌&&◌, ◌||◌, refl, ◌∙◌, List, [], ◌∷◌, ◌++◌, Some, None, Option, length, ap, arith, Contains, get_or, length-append}
use Rattle.std.specs.Prelude.{◌↔◌}
use Rattle.std.specs.List.{list_all}
use Rattle.std.proofs.lemmas.Bool.{and_parts, eqb-true}
use Rattle.form_formula.specs.declared.structure.Signature.{Signature}
use Rattle.form_formula.specs.Trees.{Term, Formula, bound, num, str, app, yes, no, equal, less, has, flag, present, negation, both, either, exists, forall}
use Rattle.form_terms.specs.GroundTerms.{GroundTerm, GroundTerms, constant, skolem, and_last, sort_of, is_number}
use Rattle.form_terms.specs.Parts.{quantifiers}
use Rattle.form_terms.specs.Reading.{Reads}
use Rattle.form_terms.proofs.Kept.{nat_same}
use Rattle.form_terms.proofs.Listed.{in_filter, to_filter}
use Rattle.form_terms.proofs.Lists.{either_true, list_all-Contains, Contains-head, Contains-tail}
use Rattle.ground_instances.specs.GroundAtoms.{GroundAtom, GroundValue, applied_to, ground_value, holds_at, flagged, present_at}
use Rattle.ground_instances.specs.Readings.{of_sort, reading}
use Rattle.ground_instances.specs.Shapes.{occurs_in, occurs, has_exists}

or_right : (a b : Bool) → b ≡ true → (a || b) ≡ true
or_right true b e = refl
or_right false b e = e

pub neither_left : (a b : Bool) → (a || b) ≡ false → a ≡ false
neither_left true b e = cc
neither_left false b e = refl

pub neither_right : (a b : Bool) → (a || b) ≡ false → b ≡ false
neither_right true b e = cc
neither_right false b e = e

-- what stands at the same place with one more at the end
pushed_same : (xs ys : List GroundTerm) (t : GroundTerm) (k : ℕ) (d : GroundTerm) → length xs ≡ length ys → get_or xs k d ≡ get_or ys k d → get_or (xs ++ t ∷ []) k d ≡ get_or (ys ++ t ∷ []) k d
pushed_same [] [] t k d e h = refl
pushed_same [] (y ∷ ys) t k d e h = absurd (omega arith)
pushed_same (x ∷ xs) [] t k d e h = absurd (omega arith)
pushed_same (x ∷ xs) (y ∷ ys) t zero d e h = h
pushed_same (x ∷ xs) (y ∷ ys) t (suc k) d e h = pushed_same xs ys t k d (omega arith) h

-- the terms at the places that occur are the same
abbrev pub SameWhere : (ℕ → Bool) → List GroundTerm → List GroundTerm → Type 0
SameWhere test env env' = (k : ℕ) (d : GroundTerm) → test k ≡ true → get_or env k d ≡ get_or env' k d

same_value : (t : Term) (env env' : List GroundTerm) → SameWhere (λ k. occurs_in k t) env env' → ground_value env t ≡ ground_value env' t
same_value (bound sort depth) env env' h = ap (λ t. GroundValue.named t) (h depth (constant sort) (nat_same depth))
same_value (num n) env env' h = refl
same_value (str t) env env' h = refl
same_value (app f t) env env' h = ap (applied_to f) (same_value t env env' h)

module _ (holds : GroundAtom → Bool) where
  same_atom : (a : Formula) (env env' : List GroundTerm) → SameWhere (λ k. occurs k a) env env' → holds_at holds env a ≡ holds_at holds env' a
  same_atom yes env env' h = refl
  same_atom no env env' h = refl
  same_atom (equal t u) env env' h =
      let p = same_value t env env' (λ k d e. h k d (ap (λ b. b || occurs_in k u) e)) in
      let q = same_value u env env' (λ k d e. h k d (or_right (occurs_in k t) (occurs_in k u) e)) in cc
  same_atom (less t u) env env' h =
      let p = same_value t env env' (λ k d e. h k d (ap (λ b. b || occurs_in k u) e)) in
      let q = same_value u env env' (λ k d e. h k d (or_right (occurs_in k t) (occurs_in k u) e)) in cc
  same_atom (has r t u) env env' h =
      let p = same_value t env env' (λ k d e. h k d (ap (λ b. b || occurs_in k u) e)) in
      let q = same_value u env env' (λ k d e. h k d (or_right (occurs_in k t) (occurs_in k u) e)) in cc
  same_atom (flag f t) env env' h = ap (λ v. holds (flagged f v)) (same_value t env env' h)
  same_atom (present f t) env env' h = ap (λ v. holds (present_at f v)) (same_value t env env' h)
  same_atom (negation a) env env' h = refl
  same_atom (both a b) env env' h = refl
  same_atom (either a b) env env' h = refl
  same_atom (exists sort a) env env' h = refl
  same_atom (forall sort a) env env' h = refl

all_same : {A : Type 0} (p q : A → Bool) (xs : List A) → ((x : A) → p x ≡ q x) → list_all p xs ≡ list_all q xs
all_same p q [] e = refl
all_same p q (x ∷ xs) e = let a = e x in let b = all_same p q xs e in cc

module _ (g : Signature) (terms : List GroundTerm) (is_there : GroundTerm → Bool) (holds : GroundAtom → Bool) where
  abbrev R : ℕ → List GroundTerm → GroundTerms → Formula → Bool
  R number env args a = reading g terms is_there holds number env args a

  -- a formula is read alike where its own variables are the same terms
  pub same_reading : (a : Formula) (number : ℕ) (env env' : List GroundTerm) (args : GroundTerms) → length env ≡ length env' → SameWhere (λ k. occurs k a) env env' → R number env args a ≡ R number env' args a
  same_reading yes number env env' args e h = refl
  same_reading no number env env' args e h = refl
  same_reading (equal t u) number env env' args e h = same_atom holds (equal t u) env env' h
  same_reading (less t u) number env env' args e h = same_atom holds (less t u) env env' h
  same_reading (has r t u) number env env' args e h = same_atom holds (has r t u) env env' h
  same_reading (flag f t) number env env' args e h = same_atom holds (flag f t) env env' h
  same_reading (present f t) number env env' args e h = same_atom holds (present f t) env env' h
  same_reading (negation a) number env env' args e h = ap not (same_atom holds a env env' h)
  same_reading (both a b) number env env' args e h =
      let p = same_reading a number env env' args e (λ k d o. h k d (ap (λ c. c || occurs k b) o)) in
      let q = same_reading b (number + quantifiers a) env env' args e (λ k d o. h k d (or_right (occurs k a) (occurs k b) o)) in cc
  same_reading (either a b) number env env' args e h =
      let p = same_reading a number env env' args e (λ k d o. h k d (ap (λ c. c || occurs k b) o)) in
      let q = same_reading b (number + quantifiers a) env env' args e (λ k d o. h k d (or_right (occurs k a) (occurs k b) o)) in cc
  same_reading (exists sort a) number env env' args e h =
      let t : GroundTerm = skolem number sort args in
      ap (λ c. is_there t && c)
      (same_reading a (number + 1) (env ++ t ∷ []) (env' ++ t ∷ []) args (omega (arith, e, length-append env (t ∷ []), length-append env' (t ∷ []))) (λ k d o. pushed_same env env' t k d e (h k d o)))
  same_reading (forall sort a) number env env' args e h =
      all_same (λ t. not (is_there t) || R (number + 1) (env ++ t ∷ []) (and_last args t) a) (λ t. not (is_there t) || R (number + 1) (env' ++ t ∷ []) (and_last args t) a) (of_sort g terms sort)
      (λ t.
      ap (λ c. not (is_there t) || c)
      (same_reading a (number + 1) (env ++ t ∷ []) (env' ++ t ∷ []) (and_last args t) (omega (arith, e, length-append env (t ∷ []), length-append env' (t ∷ [])))
      (λ k d o. pushed_same env env' t k d e (h k d o))))

  -- one without `exists` whatever its number and the terms of the `forall`s above
  pub free_reading : (a : Formula) (number number' : ℕ) (env : List GroundTerm) (args args' : GroundTerms) → has_exists a ≡ false → R number env args a ≡ R number' env args' a
  free_reading yes number number' env args args' e = refl
  free_reading no number number' env args args' e = refl
  free_reading (equal t u) number number' env args args' e = refl
  free_reading (less t u) number number' env args args' e = refl
  free_reading (has r t u) number number' env args args' e = refl
  free_reading (flag f t) number number' env args args' e = refl
  free_reading (present f t) number number' env args args' e = refl
  free_reading (negation a) number number' env args args' e = refl
  free_reading (both a b) number number' env args args' e =
      let p = free_reading a number number' env args args' (neither_left (has_exists a) (has_exists b) e) in
      let q = free_reading b (number + quantifiers a) (number' + quantifiers a) env args args' (neither_right (has_exists a) (has_exists b) e) in cc
  free_reading (either a b) number number' env args args' e =
      let p = free_reading a number number' env args args' (neither_left (has_exists a) (has_exists b) e) in
      let q = free_reading b (number + quantifiers a) (number' + quantifiers a) env args args' (neither_right (has_exists a) (has_exists b) e) in cc
  free_reading (exists sort a) number number' env args args' e = cc
  free_reading (forall sort a) number number' env args args' e =
      all_same (λ t. not (is_there t) || R (number + 1) (env ++ t ∷ []) (and_last args t) a) (λ t. not (is_there t) || R (number' + 1) (env ++ t ∷ []) (and_last args' t) a) (of_sort g terms sort)
      (λ t. ap (λ c. not (is_there t) || c) (free_reading a (number + 1) (number' + 1) (env ++ t ∷ []) (and_last args t) (and_last args' t) e))

  abbrev S : ℕ → List GroundTerm → GroundTerms → Formula → Type 0
  S number env args a = Reads g is_there (holds_at holds) terms number env args a

  number_is : (o : Option ℕ) (sort : ℕ) → is_number o sort ≡ true → o ≡ Some sort
  number_is None sort e = cc
  number_is (Some s) sort e = ap (λ n. Some n) (eqb-true s sort e)

  is_of_sort : (o : Option ℕ) (sort : ℕ) → o ≡ Some sort → is_number o sort ≡ true
  is_of_sort o sort e = ap (λ o. is_number o sort) e ∙ nat_same sort

  guarded : (b c : Bool) → (not b || c) ≡ true → b ≡ true → c ≡ true
  guarded true c e h = e
  guarded false c e h = cc

  guard : (b c : Bool) → (b ≡ true → c ≡ true) → (not b || c) ≡ true
  guard true c e = e refl
  guard false c e = refl

  all_from : {A : Type 0} (p : A → Bool) (xs : List A) → ((x : A) → Contains xs x → p x ≡ true) → list_all p xs ≡ true
  all_from p [] e = refl
  all_from p (x ∷ xs) e = let a = e x (Contains-head x xs) in let b = all_from p xs (λ y c. e y (Contains-tail x xs y c)) in cc

  -- the test and the reading
  pub to_reads : (a : Formula) (number : ℕ) (env : List GroundTerm) (args : GroundTerms) → R number env args a ≡ true → S number env args a
  to_reads yes number env args e = tt
  to_reads no number env args e = cc
  to_reads (equal t u) number env args e = e
  to_reads (less t u) number env args e = e
  to_reads (has r t u) number env args e = e
  to_reads (flag f t) number env args e = e
  to_reads (present f t) number env args e = e
  to_reads (negation a) number env args e = e
  to_reads (both a b) number env args e =
      let p = and_parts (R number env args a) (R (number + quantifiers a) env args b) e in (to_reads a number env args p.0, to_reads b (number + quantifiers a) env args p.1)
  to_reads (either a b) number env args e =
      elim (either_true (R number env args a) (R (number + quantifiers a) env args b) e) [
        | inl h ↦ inl (to_reads a number env args h)
        | inr h ↦ inr (to_reads b (number + quantifiers a) env args h)
      ]
  to_reads (exists sort a) number env args e =
      let t : GroundTerm = skolem number sort args in
      let p = and_parts (is_there t) (R (number + 1) (env ++ t ∷ []) args a) e in (p.0, to_reads a (number + 1) (env ++ t ∷ []) args p.1)
  to_reads (forall sort a) number env args e = λ t there of there'.
      let c = to_filter (λ t. is_number (sort_of g t) sort) terms t there (is_of_sort (sort_of g t) sort of) in
      let p = list_all-Contains (λ t. not (is_there t) || R (number + 1) (env ++ t ∷ []) (and_last args t) a) (of_sort g terms sort) t e c in
      to_reads a (number + 1) (env ++ t ∷ []) (and_last args t) (guarded (is_there t) (R (number + 1) (env ++ t ∷ []) (and_last args t) a) p there')

  pub from_reads : (a : Formula) (number : ℕ) (env : List GroundTerm) (args : GroundTerms) → S number env args a → R number env args a ≡ true
  from_reads yes number env args h = refl
  from_reads no number env args h = absurd h
  from_reads (equal t u) number env args h = h
  from_reads (less t u) number env args h = h
  from_reads (has r t u) number env args h = h
  from_reads (flag f t) number env args h = h
  from_reads (present f t) number env args h = h
  from_reads (negation a) number env args h = h
  from_reads (both a b) number env args h =
      let p = from_reads a number env args h.0 in let q = from_reads b (number + quantifiers a) env args h.1 in cc
  from_reads (either a b) number env args (inl h) = ap (λ c. c || R (number + quantifiers a) env args b) (from_reads a number env args h)
  from_reads (either a b) number env args (inr h) = or_right (R number env args a) (R (number + quantifiers a) env args b) (from_reads b (number + quantifiers a) env args h)
  from_reads (exists sort a) number env args h =
      let t : GroundTerm = skolem number sort args in
      let p : is_there t ≡ true = h.0 in
      let q = from_reads a (number + 1) (env ++ t ∷ []) args h.1 in cc
  from_reads (forall sort a) number env args h =
      all_from (λ t. not (is_there t) || R (number + 1) (env ++ t ∷ []) (and_last args t) a) (of_sort g terms sort)
      (λ t c.
      let own = in_filter (λ t. is_number (sort_of g t) sort) terms t c in
      guard (is_there t) (R (number + 1) (env ++ t ∷ []) (and_last args t) a)
      (λ there. from_reads a (number + 1) (env ++ t ∷ []) (and_last args t) (h t own.0 (number_is (sort_of g t) sort own.1) there)))

  pub reads_exactly : (a : Formula) (number : ℕ) (env : List GroundTerm) (args : GroundTerms) → (R number env args a ≡ true) ↔ S number env args a
  reads_exactly a number env args = (to_reads a number env args, from_reads a number env args)
