-- Which cases are over a signature, where the quantifiers above have these sorts.
use Rattle.std.proofs.Common.{◌≡◌, ℕ, zero, suc, ◌<◌, Bool, true, false, not, ◌||◌, List, [], ◌∷◌, ◌++◌, length, refl, ap, sym, ◌∙◌, subst}
use Rattle.std.specs.Prelude.{Some, slice_get, slice_index_or, fold, if◌then◌else◌}
use Rattle.std.specs.List.{AllByRecursion}
use Rattle.text_tree.specs.declared.exprs.CmpOp.{CmpOp}
use Rattle.text_tree.specs.declared.exprs.CmpOp.TheVariants.{Eq, Ne, Lt, Le, Gt, Ge}
use Rattle.type_schema.specs.declared.types.TBase.{TBase}
use Rattle.type_schema.specs.declared.types.TBase.TheVariants as base
use Rattle.type_schema.specs.declared.types.TTy.{TTy}
use Rattle.type_schema.specs.declared.types.TTy.TheVariants.{Plain, Set, Opt}
use Rattle.type_schema.specs.Schema.{Schema}
use Rattle.type_schema.specs.Typing.{Scope, MaySign}
use Rattle.data_meaning.proofs.Agreement.{ap2}
use Rattle.form_formula.specs.declared.structure.Signature.{Signature}
use Rattle.form_formula.specs.Trees.{Term, app, Formula, no, equal, less, has, flag, present}
use Rattle.form_formula.specs.Over.{HasRange, AreComparable, IsOver}
use Rattle.duty_meaning.specs.Structures.{base_range, function_of, relation_of}
use Rattle.duty_meaning.specs.Cases.{Condition, constant, atom, and_if, or_if, exists_if, all_if, any_if, chosen, same_condition, Cases, at_term, held, truth, among, none, some, choice, continued, at_ends, of_term, at_terms, is_present, of_option, end_holds, condition_of, end_has, has_term, same_term, less_term, is_truth_type, holds_truth, is_truth, some_of}
use Rattle.duty_meaning.specs.Cases as cases
use Rattle.duty_meaning.specs.Formulas.{Scene, Who, static, record_at, of_each_kind}
use Rattle.duty_meaning.proofs.Means.{IsPrefix, prefix-itself, prefix-along, HasType, shows-truth, truth-type, option-type}
use Rattle.duty_meaning.proofs.Ends.{IsEnd}

-- ---- formulas

module _ (g : Signature) (scope : List ℕ) where
  pub constant-over : (b : Bool) → IsOver g scope (constant b)
  constant-over true = tt
  constant-over false = tt

  pub atom-over : (sign : Bool) (a : Formula) → IsOver g scope a → IsOver g scope (atom sign a)
  atom-over true a h = h
  atom-over false a h = h

  pub and-over : (sign : Bool) (a c : Formula) → IsOver g scope a → IsOver g scope c → IsOver g scope (and_if sign a c)
  and-over true a c h k = (h, k)
  and-over false a c h k = (h, k)

  pub exists-over : (sign : Bool) (sort : ℕ) (a : Formula) → sort < g.sorts → IsOver g (scope ++ sort ∷ []) a → IsOver g scope (exists_if sign sort a)
  exists-over true sort a h k = (h, k)
  exists-over false sort a h k = (h, k)

  fold-over : (sign : Bool) (f : Formula) → IsOver g scope f → (fs : List Formula) → AllByRecursion (IsOver g scope) fs → IsOver g scope (fold (and_if sign) f fs)
  fold-over sign f h [] all = h
  fold-over sign f h (e ∷ fs) all = fold-over sign (and_if sign f e) (and-over sign f e h all.0) fs all.1

  pub all-over : (sign : Bool) (fs : List Formula) → AllByRecursion (IsOver g scope) fs → IsOver g scope (all_if sign fs)
  all-over sign [] all = constant-over sign
  all-over sign (f ∷ fs) all = fold-over sign f all.0 fs all.1

  pub any-over : (sign : Bool) (fs : List Formula) → AllByRecursion (IsOver g scope) fs → IsOver g scope (any_if sign fs)
  any-over sign [] all = constant-over (not sign)
  any-over sign (f ∷ fs) all = fold-over (not sign) f all.0 fs all.1

-- ---- cases

module _ (b : Schema) (g : Signature) where
  abbrev pub HasTerm : List ℕ → TBase → Term → Type 0
  HasTerm xs p u = (zs : List ℕ) → IsPrefix xs zs → HasRange g zs u (base_range b p)

  abbrev pub OverCondition : List ℕ → Condition → Type 0
  OverCondition xs c = (zs : List ℕ) → IsPrefix xs zs → (sign : Bool) → IsOver g zs (c sign (length zs))

  abbrev pub OverMembers : List ℕ → ℕ → (Term → Condition) → Type 0
  OverMembers xs n k = (zs : List ℕ) → IsPrefix xs zs → (u : Term) → HasTerm zs (base.Id n) u → (sign : Bool) → IsOver g zs (k u sign (length zs))

  abbrev pub OverField : List ℕ → TTy → ℕ → ℕ → Term → Type 0
  OverField xs (Plain p) m f u = HasTerm xs p (app (function_of b m f) u)
  OverField xs (Set n) m f u = OverMembers xs n (λ w sign above. atom sign (has (relation_of b m f) u w))
  OverField xs (Opt p) m f u = HasTerm xs p (app (function_of b m f) u)

  abbrev pub OverCases : List ℕ → TTy → Cases → Type 0
  OverCases xs t (at_term u) = (p : TBase) × (t ≡ Plain p) × (is_truth_type b (Plain p) ≡ false) × HasTerm xs p u
  OverCases xs t (held m f u) = (holds_truth b m f ≡ is_truth_type b t) × OverField xs t m f u
  OverCases xs t (truth c) = (t ≡ Plain base.Bool) × OverCondition xs c
  OverCases xs t (among k) = (n : ℕ) × (t ≡ Set n) × OverMembers xs n k
  OverCases xs t none = (p : TBase) × (t ≡ Opt p)
  OverCases xs t (some c) = (p : TBase) × (t ≡ Opt p) × OverCases xs (Plain p) c
  OverCases xs t (choice c x y) = OverCondition xs c × OverCases xs t x × OverCases xs t y

  pub over-typed : (c : Cases) (xs : List ℕ) (t : TTy) → OverCases xs t c → HasType b t c
  over-typed (at_term u) xs t h = (h.0, h.1, ap (is_truth_type b) h.1 ∙ h.2)
  over-typed (held m f u) xs t h = h.0
  over-typed (truth c) xs t h = h.0
  over-typed (among k) xs t h = (h.0, h.1)
  over-typed none xs t h = h
  over-typed (some c) xs t h = (h.0, h.1, over-typed c xs (Plain h.0) h.2)
  over-typed (choice c x y) xs t h = (over-typed x xs t h.1, over-typed y xs t h.2)

  field-more : (xs zs : List ℕ) (t : TTy) (m f : ℕ) (u : Term) → IsPrefix xs zs → OverField xs t m f u → OverField zs t m f u
  field-more xs zs (Plain p) m f u q h = λ ws r. h ws (prefix-along xs zs ws q r)
  field-more xs zs (Set n) m f u q h = λ ws r. h ws (prefix-along xs zs ws q r)
  field-more xs zs (Opt p) m f u q h = λ ws r. h ws (prefix-along xs zs ws q r)

  pub over-more : (c : Cases) (xs zs : List ℕ) (t : TTy) → IsPrefix xs zs → OverCases xs t c → OverCases zs t c
  over-more (at_term u) xs zs t q h = (h.0, h.1, h.2, λ ws r. h.3 ws (prefix-along xs zs ws q r))
  over-more (held m f u) xs zs t q h = (h.0, field-more xs zs t m f u q h.1)
  over-more (truth c) xs zs t q h = (h.0, λ ws r. h.1 ws (prefix-along xs zs ws q r))
  over-more (among k) xs zs t q h = (h.0, h.1, λ ws r. h.2 ws (prefix-along xs zs ws q r))
  over-more none xs zs t q h = h
  over-more (some c) xs zs t q h = (h.0, h.1, over-more c xs zs (Plain h.0) q h.2)
  over-more (choice c x y) xs zs t q h = (λ ws r. h.0 ws (prefix-along xs zs ws q r), over-more x xs zs t q h.1, over-more y xs zs t q h.2)

  -- ---- ends

  pub ends-over : (xs : List ℕ) (t : TTy) (K : Cases → Formula) → ((e : Cases) → IsEnd e → OverCases xs t e → IsOver g xs (K e))
      → (c : Cases) → OverCases xs t c → IsOver g xs (at_ends (length xs) K c)
  ends-over xs t K k (at_term u) h = k (at_term u) tt h
  ends-over xs t K k (held m f u) h = k (held m f u) tt h
  ends-over xs t K k (truth c) h = k (truth c) tt h
  ends-over xs t K k (among c) h = k (among c) tt h
  ends-over xs t K k none h = k none tt h
  ends-over xs t K k (some c) h = k (some c) tt h
  ends-over xs t K k (choice c x y) h =
      ((h.0 xs (prefix-itself xs) true, ends-over xs t K k x h.1), (h.0 xs (prefix-itself xs) false, ends-over xs t K k y h.2))

  pub ends-cases : (xs : List ℕ) (t t' : TTy) (K : Cases → Cases) → ((e : Cases) → IsEnd e → OverCases xs t e → OverCases xs t' (K e))
      → (c : Cases) → OverCases xs t c → OverCases xs t' (continued K c)
  ends-cases xs t t' K k (at_term u) h = k (at_term u) tt h
  ends-cases xs t t' K k (held m f u) h = k (held m f u) tt h
  ends-cases xs t t' K k (truth c) h = k (truth c) tt h
  ends-cases xs t t' K k (among c) h = k (among c) tt h
  ends-cases xs t t' K k none h = k none tt h
  ends-cases xs t t' K k (some c) h = k (some c) tt h
  ends-cases xs t t' K k (choice c x y) h = (h.0, ends-cases xs t t' K k x h.1, ends-cases xs t t' K k y h.2)

  pub term-end : {A : Type 0} (P : A → Type 0) (other : A) (k : Term → A) (xs : List ℕ) (p : TBase) → is_truth_type b (Plain p) ≡ false
      → ((u : Term) → HasTerm xs p u → P (k u)) → (e : Cases) → IsEnd e → OverCases xs (Plain p) e → P (of_term b other k e)
  term-end {A} P other k xs p plain at (at_term u) end h =
      let same : h.0 ≡ p = let e = h.1 in cc in
      at u (subst (λ (q : TBase). HasTerm xs q u) same h.3)
  term-end {A} P other k xs p plain at (held m f u) end h = at (app (function_of b m f) u) h.1
  term-end {A} P other k xs p plain at (truth c) end h = let never : true ≡ false = sym (ap (is_truth_type b) h.0) ∙ plain in cc
  term-end {A} P other k xs p plain at (among c) end h = let never = h.1 in cc
  term-end {A} P other k xs p plain at none end h = let never = h.1 in cc
  term-end {A} P other k xs p plain at (some c) end h = let never = h.1 in cc
  term-end {A} P other k xs p plain at (choice c x y) end h = absurd end

  pub terms-over : (xs : List ℕ) (p : TBase) (k : Term → Formula) → is_truth_type b (Plain p) ≡ false → ((u : Term) → HasTerm xs p u → IsOver g xs (k u))
      → (c : Cases) → OverCases xs (Plain p) c → IsOver g xs (at_terms b (length xs) k c)
  terms-over xs p k plain at c h = ends-over xs (Plain p) (of_term b no k) (λ e end h. term-end (λ a. IsOver g xs a) no k xs p plain at e end h) c h

  -- what stands for none, and for some value
  pub option-end : {A : Type 0} (R : A → Type 0) (choose : Condition → A → A → A) (xs : List ℕ)
      → ((c : Condition) → OverCondition xs c → (x y : A) → R x → R y → R (choose c x y)) → (p : TBase) (empty : A) (filled : Cases → A) → R empty
      → ((c : Cases) → OverCases xs (Plain p) c → R (filled c))
      → (e : Cases) → IsEnd e → OverCases xs (Opt p) e → R (of_option b choose empty filled e)
  option-end {A} R choose xs ok p empty filled at_none at_some (at_term u) end h = at_none
  option-end {A} R choose xs ok p empty filled at_none at_some (held m f u) end h =
      ok (λ sign above. is_present b m f u (not sign) above) (λ zs q sign. present-over zs (not sign) (h.1 zs q)) empty (filled (held m f u)) at_none
      (at_some (held m f u) (h.0 ∙ option-type b p, h.1))
    where
      present-over : (zs : List ℕ) (sign : Bool) → HasRange g zs (app (function_of b m f) u) (base_range b p) → IsOver g zs (atom sign (present (function_of b m f) u))
      present-over zs sign h = atom-over g zs sign (present (function_of b m f) u) (h.0, h.1, h.2)
  option-end {A} R choose xs ok p empty filled at_none at_some (truth c) end h = at_none
  option-end {A} R choose xs ok p empty filled at_none at_some (among c) end h = at_none
  option-end {A} R choose xs ok p empty filled at_none at_some none end h = at_none
  option-end {A} R choose xs ok p empty filled at_none at_some (some c) end h =
      let same : h.0 ≡ p = let e = h.1 in cc in
      at_some c (subst (λ (i : TBase). OverCases xs (Plain i) c) same h.2)
  option-end {A} R choose xs ok p empty filled at_none at_some (choice c x y) end h = absurd end

  pub chosen-over : (xs : List ℕ) (c : Condition) → OverCondition xs c → (x y : Formula) → IsOver g xs x → IsOver g xs y → IsOver g xs (chosen (length xs) c x y)
  chosen-over xs c h x y k l = ((h xs (prefix-itself xs) true, k), (h xs (prefix-itself xs) false, l))

  -- ---- conditions

  holds-end : (xs : List ℕ) (sign : Bool) (e : Cases) → IsEnd e → OverCases xs (Plain base.Bool) e → IsOver g xs (end_holds b sign (length xs) e)
  holds-end xs sign (at_term u) end h = tt
  holds-end xs sign (held m f u) end h =
      let one = h.1 xs (prefix-itself xs) in
      atom-over g xs sign (flag (function_of b m f) u) (one.0, one.1, one.2, sym one.3)
  holds-end xs sign (truth c) end h = h.1 xs (prefix-itself xs) sign
  holds-end xs sign (among c) end h = tt
  holds-end xs sign none end h = tt
  holds-end xs sign (some c) end h = tt
  holds-end xs sign (choice c x y) end h = absurd end

  pub condition-over : (xs : List ℕ) (c : Cases) → OverCases xs (Plain base.Bool) c → OverCondition xs (condition_of b c)
  condition-over xs c h = λ zs q sign. ends-over zs (Plain base.Bool) (end_holds b sign (length zs)) (λ e end h. holds-end zs sign e end h) c (over-more c xs zs (Plain base.Bool) q h)

  pub same-over : (xs : List ℕ) (c e : Condition) → OverCondition xs c → OverCondition xs e → OverCondition xs (same_condition c e)
  same-over xs c e h k = λ zs q sign. ((h zs q true, k zs q sign), (h zs q false, k zs q (not sign)))

  has-end : (xs : List ℕ) (n : ℕ) (u : Term) → HasTerm xs (base.Id n) u → (sign : Bool) → (e : Cases) → IsEnd e → OverCases xs (Set n) e → IsOver g xs (end_has b u sign (length xs) e)
  has-end xs n u it sign (at_term w) end h = tt
  has-end xs n u it sign (held m f w) end h = h.1 xs (prefix-itself xs) u it sign
  has-end xs n u it sign (truth c) end h = tt
  has-end xs n u it sign (among k) end h =
      let same : h.0 ≡ n = let e = h.1 in cc in
      (subst (λ (i : ℕ). OverMembers xs i k) same h.2) xs (prefix-itself xs) u it sign
  has-end xs n u it sign none end h = tt
  has-end xs n u it sign (some c) end h = tt
  has-end xs n u it sign (choice c x y) end h = absurd end

  pub has-over : (xs : List ℕ) (n : ℕ) (c : Cases) → OverCases xs (Set n) c → OverMembers xs n (has_term b c)
  has-over xs n c h = λ zs q u it sign. ends-over zs (Set n) (end_has b u sign (length zs)) (λ e end h. has-end zs n u it sign e end h) c (over-more c xs zs (Set n) q h)

  comparable : (p : TBase) → is_truth_type b (Plain p) ≡ false → AreComparable (base_range b p)
  comparable base.Bool h = let never : true ≡ false = h in cc
  comparable base.Int h = tt
  comparable base.Text h = tt
  comparable (base.Id m) h = tt

  pub equal-over : (xs : List ℕ) (p : TBase) (c e : Cases) → is_truth_type b (Plain p) ≡ false → OverCases xs (Plain p) c → OverCases xs (Plain p) e → OverCondition xs (same_term b c e)
  equal-over xs p c e plain h k = λ zs q sign.
      terms-over zs p (λ t. at_terms b (length zs) (λ u. atom sign (equal t u)) e) plain
      (λ t it. terms-over zs p (λ u. atom sign (equal t u)) plain
      (λ u is. atom-over g zs sign (equal t u) (base_range b p, comparable p plain, it zs (prefix-itself zs), is zs (prefix-itself zs)))
      e (over-more e xs zs (Plain p) q k)) c (over-more c xs zs (Plain p) q h)

  pub less-over : (xs : List ℕ) (c e : Cases) → OverCases xs (Plain base.Int) c → OverCases xs (Plain base.Int) e → OverCondition xs (less_term b c e)
  less-over xs c e h k = λ zs q sign.
      terms-over zs base.Int (λ t. at_terms b (length zs) (λ u. atom sign (less t u)) e) refl
      (λ t it. terms-over zs base.Int (λ u. atom sign (less t u)) refl
      (λ u is. atom-over g zs sign (less t u) (it zs (prefix-itself zs), is zs (prefix-itself zs)))
      e (over-more e xs zs (Plain base.Int) q k)) c (over-more c xs zs (Plain base.Int) q h)

  by-test : (p : TBase) (xs : List ℕ) (c e : Cases) (x : Bool) → is_truth_type b (Plain p) ≡ x → OverCases xs (Plain p) c → OverCases xs (Plain p) e
      → OverCondition xs (if x then same_condition (condition_of b c) (condition_of b e) else same_term b c e)
  by-test p xs c e true plain h k =
      let bool : p ≡ base.Bool = truth-type b p plain in
      same-over xs (condition_of b c) (condition_of b e) (condition-over xs c (subst (λ (i : TBase). OverCases xs (Plain i) c) bool h))
      (condition-over xs e (subst (λ (i : TBase). OverCases xs (Plain i) e) bool k))
  by-test p xs c e false plain h k = equal-over xs p c e plain h k

  pub equality-over : (p : TBase) (xs : List ℕ) (c e : Cases) → OverCases xs (Plain p) c → OverCases xs (Plain p) e → OverCondition xs (cases.are_equal b c e)
  equality-over p xs c e h k =
      let one = shows-truth b p c (over-typed c xs (Plain p) h) in
      let two = shows-truth b p e (over-typed e xs (Plain p) k) in
      let test : (is_truth b c || is_truth b e) ≡ is_truth_type b (Plain p) = ap2 (λ s t. s || t) one two ∙ same-or (is_truth_type b (Plain p)) in
      by-test p xs c e (is_truth b c || is_truth b e) (sym test) h k
    where
      same-or : (x : Bool) → (x || x) ≡ x
      same-or true = refl
      same-or false = refl

  pub comparison-over : (op : CmpOp) (p : TBase) → MaySign op p → (xs : List ℕ) (c e : Cases) → OverCases xs (Plain p) c → OverCases xs (Plain p) e
      → (sign : Bool) → IsOver g xs (cases.compared b op c e sign (length xs))
  comparison-over Eq p may xs c e h k sign = equality-over p xs c e h k xs (prefix-itself xs) sign
  comparison-over Ne p may xs c e h k sign = equality-over p xs c e h k xs (prefix-itself xs) (not sign)
  comparison-over Lt p may xs c e h k sign =
      less-over xs c e (subst (λ (i : TBase). OverCases xs (Plain i) c) may h) (subst (λ (i : TBase). OverCases xs (Plain i) e) may k) xs (prefix-itself xs) sign
  comparison-over Le p may xs c e h k sign =
      less-over xs e c (subst (λ (i : TBase). OverCases xs (Plain i) e) may k) (subst (λ (i : TBase). OverCases xs (Plain i) c) may h) xs (prefix-itself xs) (not sign)
  comparison-over Gt p may xs c e h k sign =
      less-over xs e c (subst (λ (i : TBase). OverCases xs (Plain i) e) may k) (subst (λ (i : TBase). OverCases xs (Plain i) c) may h) xs (prefix-itself xs) sign
  comparison-over Ge p may xs c e h k sign =
      less-over xs c e (subst (λ (i : TBase). OverCases xs (Plain i) c) may h) (subst (λ (i : TBase). OverCases xs (Plain i) e) may k) xs (prefix-itself xs) (not sign)

  -- ---- variables

  abbrev pub OverScene : List ℕ → Scope → Scene → Type 0
  OverScene xs [] [] = Unit {0}
  OverScene xs [] (c ∷ scene) = ⊥
  OverScene xs (t ∷ scope) [] = ⊥
  OverScene xs (t ∷ scope) (c ∷ scene) = OverCases xs t c × OverScene xs scope scene

  pub scene-at : (xs : List ℕ) (scope : Scope) (scene : Scene) (depth : ℕ) (t : TTy) → OverScene xs scope scene → slice_get scope depth ≡ Some t
      → OverCases xs t (slice_index_or scene depth none)
  scene-at xs [] [] depth t h e = cc
  scene-at xs [] (c ∷ scene) depth t h e = absurd h
  scene-at xs (u ∷ scope) [] depth t h e = absurd h
  scene-at xs (u ∷ scope) (c ∷ scene) zero t h e = let same : u ≡ t = cc in subst (λ (k : TTy). OverCases xs k c) same h.0
  scene-at xs (u ∷ scope) (c ∷ scene) (suc depth) t h e = scene-at xs scope scene depth t h.1 e

  pub scene-more : (xs zs : List ℕ) (scope : Scope) (scene : Scene) → IsPrefix xs zs → OverScene xs scope scene → OverScene zs scope scene
  scene-more xs zs [] [] q h = tt
  scene-more xs zs [] (c ∷ scene) q h = absurd h
  scene-more xs zs (t ∷ scope) [] q h = absurd h
  scene-more xs zs (t ∷ scope) (c ∷ scene) q h = (over-more c xs zs t q h.0, scene-more xs zs scope scene q h.1)

  pub scene-and : (xs : List ℕ) (scope : Scope) (scene : Scene) (t : TTy) (c : Cases) → OverScene xs scope scene → OverCases xs t c → OverScene xs (scope ++ t ∷ []) (scene ++ c ∷ [])
  scene-and xs [] [] t c h k = (k, tt)
  scene-and xs [] (e ∷ scene) t c h k = absurd h
  scene-and xs (u ∷ scope) [] t c h k = absurd h
  scene-and xs (u ∷ scope) (e ∷ scene) t c h k = (h.0, scene-and xs scope scene t c h.1 k)

  -- ---- whom a set is asked about

  abbrev pub OverWho : List ℕ → Who → Type 0
  OverWho xs (static n) = Unit {0}
  OverWho xs (record_at m u) = HasTerm xs (base.Id m) u
  OverWho xs (of_each_kind u) = ⊥

  pub overwho-more : (xs zs : List ℕ) (w : Who) → IsPrefix xs zs → OverWho xs w → OverWho zs w
  overwho-more xs zs (static n) q h = tt
  overwho-more xs zs (record_at m u) q h = λ ws r. h ws (prefix-along xs zs ws q r)
  overwho-more xs zs (of_each_kind u) q h = h
