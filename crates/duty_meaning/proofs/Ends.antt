-- Formulas and cases for each end of what means a value.
use Rattle.std.proofs.Common.{◌≡◌, ℕ, suc, Bool, true, false, not, ◌||◌, List, [], ◌∷◌, length, refl, ap, sym, ◌∙◌, subst}
use Rattle.std.specs.Prelude.{Option, Some, ◌==◌, nat_eq, slice_get, int_lt, option_and_then, if◌then◌else◌}
use Rattle.std.specs.List.{list_any}
use Rattle.std.proofs.lemmas.Bool.{eqb-true, eq-eqb, false_from_ne_true}
use Rattle.text_tree.specs.declared.exprs.CmpOp.{CmpOp}
use Rattle.text_tree.specs.declared.exprs.CmpOp.TheVariants.{Eq, Ne, Lt, Le, Gt, Ge}
use Rattle.type_schema.specs.declared.types.TBase.{TBase}
use Rattle.type_schema.specs.declared.types.TBase.TheVariants as base
use Rattle.type_schema.specs.declared.types.TTy.{TTy}
use Rattle.type_schema.specs.declared.types.TTy.TheVariants.{Plain, Set}
use Rattle.type_schema.specs.Schema.{Schema}
use Rattle.type_schema.specs.Typing.{MaySign}
use Rattle.data_meaning.specs.Values.{Value, Flag, Id}
use Rattle.data_meaning.specs.Database.{Database, ids_of}
use Rattle.data_meaning.specs.Meaning.{same_truth, truth_of, set_of, are_equal, is_less, compares}
use Rattle.data_meaning.proofs.Agreement.{ap2}
use Rattle.form_formula.specs.declared.structure.SVal.{SVal}
use Rattle.form_formula.specs.declared.structure.Structure.{Structure}
use Rattle.form_formula.specs.Trees.{Term, app, Formula, no, equal, less, flag}
use Rattle.form_formula.specs.Truth.{value_of, both_pass, is_true_value}
use Rattle.form_formula.specs.Truth as formula
use Rattle.duty_meaning.specs.Structures.{before, function_of}
use Rattle.duty_meaning.specs.Cases.{Condition, atom, chosen, same_condition, Cases, at_term, held, truth, among, none, some, choice, continued, at_ends, of_term, at_terms, end_holds, condition_of, end_has, has_term, same_term, less_term, is_truth_type, is_truth}
use Rattle.duty_meaning.specs.Cases as cases
use Rattle.duty_meaning.proofs.Signed.{same-not, atom-truth, chosen-truth}
use Rattle.duty_meaning.proofs.Means.{prefix-itself, HasType, shows-truth, IsEntry, IsTermOf, IsConditionOf, AreMembers, Means, means-more}

-- an end of cases
abbrev pub IsEnd : Cases → Type 0
IsEnd (at_term u) = Unit {0}
IsEnd (held m f u) = Unit {0}
IsEnd (truth c) = Unit {0}
IsEnd (among k) = Unit {0}
IsEnd none = Unit {0}
IsEnd (some c) = Unit {0}
IsEnd (choice c x y) = ⊥

pub ends-typed : (b : Schema) (K : Cases → Cases) (t t' : TTy) → ((e : Cases) → IsEnd e → HasType b t e → HasType b t' (K e))
    → (c : Cases) → HasType b t c → HasType b t' (continued K c)
ends-typed b K t t' k (at_term u) h = k (at_term u) tt h
ends-typed b K t t' k (held m f u) h = k (held m f u) tt h
ends-typed b K t t' k (truth c) h = k (truth c) tt h
ends-typed b K t t' k (among c) h = k (among c) tt h
ends-typed b K t t' k none h = k none tt h
ends-typed b K t t' k (some c) h = k (some c) tt h
ends-typed b K t t' k (choice c x y) h = (ends-typed b K t t' k x h.0, ends-typed b K t t' k y h.1)

-- ---- elements of records that are there

-- the id that stands where a record is found
found-at : (ids : List ℕ) (i : ℕ) → list_any (λ k. k == i) ids ≡ true → slice_get ids (before (λ k. k == i) ids) ≡ Some i
found-at [] i h = cc
found-at (x ∷ ids) i h =
    elim (x == i) as (λ (t : Bool). (x == i) ≡ t → (t || list_any (λ k. k == i) ids) ≡ true
    → slice_get (x ∷ ids) (if t then 0 else suc (before (λ k. k == i) ids)) ≡ Some i) [
      | true ↦ λ is e. ap (λ k. Some k) (eqb-true x i is)
      | false ↦ λ is e. found-at ids i e
    ] refl h

pub same-element : (ids : List ℕ) (i j : ℕ) → list_any (λ k. k == i) ids ≡ true → list_any (λ k. k == j) ids ≡ true
    → nat_eq (before (λ k. k == i) ids) (before (λ k. k == j) ids) ≡ (i == j)
same-element ids i j h k =
    elim (i == j) as (λ (t : Bool). (i == j) ≡ t → nat_eq (before (λ k. k == i) ids) (before (λ k. k == j) ids) ≡ t) [
      | true ↦ λ is. eq-eqb _ _ (ap (λ n. before (λ k. k == n) ids) (eqb-true i j is))
      | false ↦ λ is. false_from_ne_true _ (λ e.
          let place : before (λ k. k == i) ids ≡ before (λ k. k == j) ids = eqb-true _ _ e in
          let one : Some i ≡ Some j = sym (found-at ids i h) ∙ ap (slice_get ids) place ∙ found-at ids j k in
          let same : i ≡ j = cc in
          let never : true ≡ false = sym (eq-eqb i j same) ∙ is in
          cc)
    ] refl

module _ (b : Schema) (st : Structure) (d : Database) where
  -- ---- formulas and cases at ends

  pub ends-true : (xs : List ℕ) (t : TTy) (v : Value) (K : Cases → Formula) (r : Bool)
      → ((e : Cases) → IsEnd e → Means b st d xs t v e → HasType b t e → formula.truth st xs (K e) ≡ r)
      → (c : Cases) → Means b st d xs t v c → HasType b t c → formula.truth st xs (at_ends (length xs) K c) ≡ r
  ends-true xs t v K r k (at_term u) h y = k (at_term u) tt h y
  ends-true xs t v K r k (held m f u) h y = k (held m f u) tt h y
  ends-true xs t v K r k (truth c) h y = k (truth c) tt h y
  ends-true xs t v K r k (among c) h y = k (among c) tt h y
  ends-true xs t v K r k none h y = k none tt h y
  ends-true xs t v K r k (some c) h y = k (some c) tt h y
  ends-true xs t v K r k (choice c x z) h y =
      chosen-truth st xs (length xs) c h.0 (λ sign. h.1 xs (prefix-itself xs) sign)
      (at_ends (length xs) K x) (at_ends (length xs) K z) r
      (λ e. ends-true xs t v K r k x (h.2 e) y.0) (λ e. ends-true xs t v K r k z (h.3 e) y.1)

  pub ends-mean : (xs : List ℕ) (t t' : TTy) (v v' : Value) (K : Cases → Cases)
      → ((e : Cases) → IsEnd e → Means b st d xs t v e → HasType b t e → Means b st d xs t' v' (K e))
      → (c : Cases) → Means b st d xs t v c → HasType b t c → Means b st d xs t' v' (continued K c)
  ends-mean xs t t' v v' K k (at_term u) h y = k (at_term u) tt h y
  ends-mean xs t t' v v' K k (held m f u) h y = k (held m f u) tt h y
  ends-mean xs t t' v v' K k (truth c) h y = k (truth c) tt h y
  ends-mean xs t t' v v' K k (among c) h y = k (among c) tt h y
  ends-mean xs t t' v v' K k none h y = k none tt h y
  ends-mean xs t t' v v' K k (some c) h y = k (some c) tt h y
  ends-mean xs t t' v v' K k (choice c x z) h y = (
    h.0,
    h.1,
    λ e. ends-mean xs t t' v v' K k x (h.2 e) y.0,
    λ e. ends-mean xs t t' v v' K k z (h.3 e) y.1,
  )

  -- ---- terms

  pub term-end : {A : Type 0} (P : A → Type 0) (other : A) (k : Term → A) (xs : List ℕ) (p : TBase) (v : Value)
      → is_truth_type b (Plain p) ≡ false → ((u : Term) → IsTermOf b st d xs p v u → P (k u))
      → (e : Cases) → IsEnd e → Means b st d xs (Plain p) v e → P (of_term b other k e)
  term-end {A} P other k xs p v plain at (at_term u) end h =
      let same : h.0 ≡ p = let e = h.1 in cc in
      at u (subst (λ (q : TBase). IsTermOf b st d xs q v u) same h.3)
  term-end {A} P other k xs p v plain at (held m f u) end h = at (app (function_of b m f) u) h
  term-end {A} P other k xs p v plain at (truth c) end h =
      let never : true ≡ false = sym (ap (is_truth_type b) h.0) ∙ plain in cc
  term-end {A} P other k xs p v plain at (among c) end h = let never = h.1 in cc
  term-end {A} P other k xs p v plain at none end h = let never = h.1 in cc
  term-end {A} P other k xs p v plain at (some c) end h = let never = h.1 in cc
  term-end {A} P other k xs p v plain at (choice c x y) end h = absurd end

  pub terms-true : (xs : List ℕ) (p : TBase) (v : Value) (k : Term → Formula) (r : Bool) → is_truth_type b (Plain p) ≡ false
      → ((u : Term) → IsTermOf b st d xs p v u → formula.truth st xs (k u) ≡ r)
      → (c : Cases) → Means b st d xs (Plain p) v c → HasType b (Plain p) c → formula.truth st xs (at_terms b (length xs) k c) ≡ r
  terms-true xs p v k r plain at c h y =
      ends-true xs (Plain p) v (of_term b no k) r
      (λ e end h y. term-end (λ a. formula.truth st xs a ≡ r) no k xs p v plain at e end h) c h y

  -- ---- conditions

  holds-end : (xs : List ℕ) (v : Value) (sign : Bool) (e : Cases) → IsEnd e → Means b st d xs (Plain base.Bool) v e
      → formula.truth st xs (end_holds b sign (length xs) e) ≡ same_truth sign (truth_of v)
  holds-end xs v sign (at_term u) end h = let never : true ≡ false = ap (is_truth_type b) h.1 ∙ h.2 in cc
  holds-end xs v sign (held m f u) end h =
      let one = h xs (prefix-itself xs) in
      atom-truth st xs sign (flag (function_of b m f) u)
      ∙ ap (same_truth sign) (ap is_true_value one.2 ∙ sym (ap truth_of one.1))
  holds-end xs v sign (truth c) end h = h.2 xs (prefix-itself xs) sign
  holds-end xs v sign (among c) end h = let never = h.1 in cc
  holds-end xs v sign none end h = let never = h.1 in cc
  holds-end xs v sign (some c) end h = let never = h.1 in cc
  holds-end xs v sign (choice c x y) end h = absurd end

  pub condition-means : (xs : List ℕ) (v : Value) (c : Cases) → Means b st d xs (Plain base.Bool) v c → HasType b (Plain base.Bool) c
      → IsConditionOf b st d xs (truth_of v) (condition_of b c)
  condition-means xs v c h y = λ zs q sign.
      ends-true zs (Plain base.Bool) v (end_holds b sign (length zs)) (same_truth sign (truth_of v))
      (λ e end h y. holds-end zs v sign e end h) c (means-more b st d c xs zs (Plain base.Bool) v q h) y

  pub truth-value : (xs : List ℕ) (v : Value) (c : Cases) → Means b st d xs (Plain base.Bool) v c → v ≡ Flag (truth_of v)
  truth-value xs v (at_term u) h = let never : true ≡ false = ap (is_truth_type b) h.1 ∙ h.2 in cc
  truth-value xs v (held m f u) h = let one = h xs (prefix-itself xs) in one.1 ∙ ap (λ x. Flag x) (sym (ap truth_of one.1))
  truth-value xs v (truth c) h = h.1
  truth-value xs v (among c) h = let never = h.1 in cc
  truth-value xs v none h = let never = h.1 in cc
  truth-value xs v (some c) h = let never = h.1 in cc
  truth-value xs v (choice c x y) h =
      elim h.0 as (λ (t : Bool). h.0 ≡ t → v ≡ Flag (truth_of v)) [
        | true ↦ λ e. truth-value xs v x (h.2 e)
        | false ↦ λ e. truth-value xs v y (h.3 e)
      ] refl

  pub not-condition : (xs : List ℕ) (x : Bool) (c : Condition) → IsConditionOf b st d xs x c → IsConditionOf b st d xs (not x) (λ sign above. c (not sign) above)
  not-condition xs x c h = λ zs q sign. h zs q (not sign) ∙ same-not sign x

  pub same-conditions : (xs : List ℕ) (x y : Bool) (c e : Condition) → IsConditionOf b st d xs x c → IsConditionOf b st d xs y e
      → IsConditionOf b st d xs (same_truth x y) (same_condition c e)
  same-conditions xs x y c e h k = λ zs q sign.
      chosen-truth st zs (length zs) c x (λ s. h zs q s) (e sign (length zs)) (e (not sign) (length zs)) (same_truth sign (same_truth x y))
      (λ is. k zs q sign ∙ ap (λ t. same_truth sign (same_truth t y)) (sym is))
      (λ is. k zs q (not sign) ∙ same-not sign y ∙ ap (λ t. same_truth sign (same_truth t y)) (sym is))

  -- ---- sets

  has-end : (xs : List ℕ) (n : ℕ) (v : Value) (id : ℕ) (u : Term) → IsTermOf b st d xs (base.Id n) (Id id) u → (sign : Bool)
      → (e : Cases) → IsEnd e → Means b st d xs (Set n) v e
      → formula.truth st xs (end_has b u sign (length xs) e) ≡ same_truth sign (list_any (λ i. i == id) (set_of v))
  has-end xs n v id u it sign (at_term w) end h = let never = h.1 in cc
  has-end xs n v id u it sign (held m f w) end h = h xs (prefix-itself xs) id u it sign
  has-end xs n v id u it sign (truth c) end h = let never = h.0 in cc
  has-end xs n v id u it sign (among k) end h =
      let same : h.0 ≡ n = let e = h.1 in cc in
      (subst (λ (i : ℕ). AreMembers b st d xs i v k) same h.2) xs (prefix-itself xs) id u it sign
  has-end xs n v id u it sign none end h = let never = h.1 in cc
  has-end xs n v id u it sign (some c) end h = let never = h.1 in cc
  has-end xs n v id u it sign (choice c x y) end h = absurd end

  pub has-means : (xs : List ℕ) (n : ℕ) (v : Value) (c : Cases) → Means b st d xs (Set n) v c → HasType b (Set n) c
      → AreMembers b st d xs n v (has_term b c)
  has-means xs n v c h y = λ zs q id u it sign.
      ends-true zs (Set n) v (end_has b u sign (length zs)) (same_truth sign (list_any (λ i. i == id) (set_of v)))
      (λ e end h y. has-end zs n v id u it sign e end h) c (means-more b st d c xs zs (Set n) v q h) y

  -- ---- comparisons

  pub entries-equal : (p : TBase) (v w : Value) (e f : Option SVal) → is_truth_type b (Plain p) ≡ false → IsEntry b st d p v e → IsEntry b st d p w f
      → both_pass formula.are_equal e f ≡ are_equal v w
  entries-equal base.Bool v w e f plain h k = let never : true ≡ false = plain in cc
  entries-equal base.Int v w e f plain h k = ap2 (both_pass formula.are_equal) h.2 k.2 ∙ sym (ap2 are_equal h.1 k.1)
  entries-equal base.Text v w e f plain h k = ap2 (both_pass formula.are_equal) h.2 k.2 ∙ sym (ap2 are_equal h.1 k.1)
  entries-equal (base.Id m) v w e f plain h k =
      ap2 (both_pass formula.are_equal) h.3 k.3 ∙ same-element (ids_of d m) h.0 k.0 h.2 k.2 ∙ sym (ap2 are_equal h.1 k.1)

  pub equal-means : (xs : List ℕ) (p : TBase) (v w : Value) (c e : Cases) → is_truth_type b (Plain p) ≡ false
      → Means b st d xs (Plain p) v c → HasType b (Plain p) c → Means b st d xs (Plain p) w e → HasType b (Plain p) e
      → IsConditionOf b st d xs (are_equal v w) (same_term b c e)
  equal-means xs p v w c e plain h y k z = λ zs q sign.
      terms-true zs p v (λ t. at_terms b (length zs) (λ u. atom sign (equal t u)) e) (same_truth sign (are_equal v w)) plain
      (λ t it. terms-true zs p w (λ u. atom sign (equal t u)) (same_truth sign (are_equal v w)) plain
      (λ u is. atom-truth st zs sign (equal t u)
      ∙ ap (same_truth sign) (entries-equal p v w (value_of st zs t) (value_of st zs u) plain (it zs (prefix-itself zs)) (is zs (prefix-itself zs))))
      e (means-more b st d e xs zs (Plain p) w q k) z)
      c (means-more b st d c xs zs (Plain p) v q h) y

  entries-less : (v w : Value) (e f : Option SVal) → IsEntry b st d base.Int v e → IsEntry b st d base.Int w f
      → both_pass int_lt (option_and_then formula.number_of e) (option_and_then formula.number_of f) ≡ is_less v w
  entries-less v w e f h k =
      ap2 (λ x y. both_pass int_lt (option_and_then formula.number_of x) (option_and_then formula.number_of y)) h.2 k.2
      ∙ sym (ap2 is_less h.1 k.1)

  pub less-means : (xs : List ℕ) (v w : Value) (c e : Cases)
      → Means b st d xs (Plain base.Int) v c → HasType b (Plain base.Int) c → Means b st d xs (Plain base.Int) w e → HasType b (Plain base.Int) e
      → IsConditionOf b st d xs (is_less v w) (less_term b c e)
  less-means xs v w c e h y k z = λ zs q sign.
      terms-true zs base.Int v (λ t. at_terms b (length zs) (λ u. atom sign (less t u)) e) (same_truth sign (is_less v w)) refl
      (λ t it. terms-true zs base.Int w (λ u. atom sign (less t u)) (same_truth sign (is_less v w)) refl
      (λ u is. atom-truth st zs sign (less t u)
      ∙ ap (same_truth sign) (entries-less v w (value_of st zs t) (value_of st zs u) (it zs (prefix-itself zs)) (is zs (prefix-itself zs))))
      e (means-more b st d e xs zs (Plain base.Int) w q k) z)
      c (means-more b st d c xs zs (Plain base.Int) v q h) y

  -- equality of two values of a base type
  pub equality-means : (p : TBase) (xs : List ℕ) (v w : Value) (c e : Cases)
      → Means b st d xs (Plain p) v c → HasType b (Plain p) c → Means b st d xs (Plain p) w e → HasType b (Plain p) e
      → IsConditionOf b st d xs (are_equal v w) (cases.are_equal b c e)
  equality-means base.Bool xs v w c e h y k z =
      let test : (is_truth b c || is_truth b e) ≡ true = ap (λ t. t || is_truth b e) (shows-truth b base.Bool c y) in
      subst (λ (t : Bool). IsConditionOf b st d xs (are_equal v w) (if t then same_condition (condition_of b c) (condition_of b e) else same_term b c e)) (sym test)
      (subst (λ (x : Bool). IsConditionOf b st d xs x (same_condition (condition_of b c) (condition_of b e)))
      (ap (λ u. are_equal u w) (sym (truth-value xs v c h)))
      (same-conditions xs (truth_of v) (truth_of w) (condition_of b c) (condition_of b e) (condition-means xs v c h y) (condition-means xs w e k z)))
  equality-means base.Int xs v w c e h y k z =
      let test : (is_truth b c || is_truth b e) ≡ false = ap2 (λ s t. s || t) (shows-truth b base.Int c y) (shows-truth b base.Int e z) in
      subst (λ (t : Bool). IsConditionOf b st d xs (are_equal v w) (if t then same_condition (condition_of b c) (condition_of b e) else same_term b c e)) (sym test)
      (equal-means xs base.Int v w c e refl h y k z)
  equality-means base.Text xs v w c e h y k z =
      let test : (is_truth b c || is_truth b e) ≡ false = ap2 (λ s t. s || t) (shows-truth b base.Text c y) (shows-truth b base.Text e z) in
      subst (λ (t : Bool). IsConditionOf b st d xs (are_equal v w) (if t then same_condition (condition_of b c) (condition_of b e) else same_term b c e)) (sym test)
      (equal-means xs base.Text v w c e refl h y k z)
  equality-means (base.Id m) xs v w c e h y k z =
      let test : (is_truth b c || is_truth b e) ≡ false = ap2 (λ s t. s || t) (shows-truth b (base.Id m) c y) (shows-truth b (base.Id m) e z) in
      subst (λ (t : Bool). IsConditionOf b st d xs (are_equal v w) (if t then same_condition (condition_of b c) (condition_of b e) else same_term b c e)) (sym test)
      (equal-means xs (base.Id m) v w c e refl h y k z)

  pub comparison-means : (op : CmpOp) (p : TBase) → MaySign op p → (xs : List ℕ) (v w : Value) (c e : Cases)
      → Means b st d xs (Plain p) v c → HasType b (Plain p) c → Means b st d xs (Plain p) w e → HasType b (Plain p) e
      → (sign : Bool) → formula.truth st xs (cases.compared b op c e sign (length xs)) ≡ same_truth sign (compares op v w)
  comparison-means Eq p may xs v w c e h y k z sign = equality-means p xs v w c e h y k z xs (prefix-itself xs) sign
  comparison-means Ne p may xs v w c e h y k z sign =
      equality-means p xs v w c e h y k z xs (prefix-itself xs) (not sign) ∙ same-not sign (are_equal v w)
  comparison-means Lt p may xs v w c e h y k z sign =
      less-means xs v w c e (subst (λ (i : TBase). Means b st d xs (Plain i) v c) may h) (subst (λ (i : TBase). HasType b (Plain i) c) may y)
      (subst (λ (i : TBase). Means b st d xs (Plain i) w e) may k) (subst (λ (i : TBase). HasType b (Plain i) e) may z)
      xs (prefix-itself xs) sign
  comparison-means Le p may xs v w c e h y k z sign =
      less-means xs w v e c (subst (λ (i : TBase). Means b st d xs (Plain i) w e) may k) (subst (λ (i : TBase). HasType b (Plain i) e) may z)
      (subst (λ (i : TBase). Means b st d xs (Plain i) v c) may h) (subst (λ (i : TBase). HasType b (Plain i) c) may y)
      xs (prefix-itself xs) (not sign) ∙ same-not sign (is_less w v)
  comparison-means Gt p may xs v w c e h y k z sign =
      less-means xs w v e c (subst (λ (i : TBase). Means b st d xs (Plain i) w e) may k) (subst (λ (i : TBase). HasType b (Plain i) e) may z)
      (subst (λ (i : TBase). Means b st d xs (Plain i) v c) may h) (subst (λ (i : TBase). HasType b (Plain i) c) may y)
      xs (prefix-itself xs) sign
  comparison-means Ge p may xs v w c e h y k z sign =
      less-means xs v w c e (subst (λ (i : TBase). Means b st d xs (Plain i) v c) may h) (subst (λ (i : TBase). HasType b (Plain i) c) may y)
      (subst (λ (i : TBase). Means b st d xs (Plain i) w e) may k) (subst (λ (i : TBase). HasType b (Plain i) e) may z)
      xs (prefix-itself xs) (not sign) ∙ same-not sign (is_less v w)
