-- What the formulas of a condition and of its negation are true of.
use Rattle.std.proofs.Common.{◌≡◌, ℕ, suc, ◌+◌, Bool, true, false, not, ◌&&◌, ◌||◌, List, [], ◌∷◌, ◌++◌, length, refl, ap, sym, ◌∙◌, arith}
use Rattle.std.specs.Prelude.{Some, slice_get, fold}
use Rattle.std.specs.List.{list_any, list_all, range_with_len}
use Rattle.data_meaning.specs.Meaning.{same_truth}
use Rattle.data_meaning.proofs.Agreement.{ap2}
use Rattle.form_formula.specs.declared.structure.Structure.{Structure}
use Rattle.form_formula.specs.Trees.{Formula}
use Rattle.form_formula.specs.Truth.{truth, size_of}
use Rattle.duty_meaning.specs.Cases.{Condition, constant, atom, and_if, or_if, exists_if, all_if, any_if, chosen}

pub or-false : (b : Bool) → (b || false) ≡ b
or-false true = refl
or-false false = refl

pub and-true : (b : Bool) → (b && true) ≡ b
and-true true = refl
and-true false = refl

not-and : (x y : Bool) → (not x || not y) ≡ not (x && y)
not-and true y = refl
not-and false y = refl

pub not-or : (x y : Bool) → (not x && not y) ≡ not (x || y)
not-or true y = refl
not-or false y = refl

or-assoc : (x y z : Bool) → ((x || y) || z) ≡ (x || (y || z))
or-assoc true y z = refl
or-assoc false y z = refl

pub and-assoc : (x y z : Bool) → ((x && y) && z) ≡ (x && (y && z))
and-assoc true y z = refl
and-assoc false y z = refl

pub same-not : (sign b : Bool) → same_truth (not sign) b ≡ same_truth sign (not b)
same-not true b = refl
same-not false true = refl
same-not false false = refl

pub same-sign : (sign : Bool) → sign ≡ same_truth sign true
same-sign true = refl
same-sign false = refl

pub same-unsign : (sign : Bool) → not sign ≡ same_truth sign false
same-unsign true = refl
same-unsign false = refl

-- ---- lists and ranges

pub any-range : (F P : ℕ → Bool) (ids : List ℕ) (first : ℕ) → ((k id : ℕ) → slice_get ids k ≡ Some id → F (first + k) ≡ P id)
    → list_any F (range_with_len first (length ids)) ≡ list_any P ids
any-range F P [] first h = refl
any-range F P (i ∷ ids) first h =
    let here : first ≡ first + 0 = omega arith in
    ap2 (λ a b. a || b) (ap F here ∙ h 0 i refl)
    (any-range F P ids (first + 1) (λ k id e. let next : (first + 1) + k ≡ first + suc k = omega arith in ap F next ∙ h (suc k) id e))

pub all-range : (F P : ℕ → Bool) (ids : List ℕ) (first : ℕ) → ((k id : ℕ) → slice_get ids k ≡ Some id → F (first + k) ≡ not (P id))
    → list_all F (range_with_len first (length ids)) ≡ not (list_any P ids)
all-range F P [] first h = refl
all-range F P (i ∷ ids) first h =
    let here : first ≡ first + 0 = omega arith in
    ap2 (λ a b. a && b) (ap F here ∙ h 0 i refl)
    (all-range F P ids (first + 1) (λ k id e. let next : (first + 1) + k ≡ first + suc k = omega arith in ap F next ∙ h (suc k) id e))
    ∙ not-or (P i) (list_any P ids)

-- ---- formulas

module _ (st : Structure) (xs : List ℕ) where
  pub constant-truth : (b : Bool) → truth st xs (constant b) ≡ b
  constant-truth true = refl
  constant-truth false = refl

  pub atom-truth : (sign : Bool) (a : Formula) → truth st xs (atom sign a) ≡ same_truth sign (truth st xs a)
  atom-truth true a = refl
  atom-truth false a = refl

  pub and-truth : (sign : Bool) (a b : Formula) (x y : Bool) → truth st xs a ≡ same_truth sign x → truth st xs b ≡ same_truth sign y
      → truth st xs (and_if sign a b) ≡ same_truth sign (x && y)
  and-truth true a b x y h k = ap2 (λ u v. u && v) h k
  and-truth false a b x y h k = ap2 (λ u v. u || v) h k ∙ not-and x y

  pub or-truth : (sign : Bool) (a b : Formula) (x y : Bool) → truth st xs a ≡ same_truth sign x → truth st xs b ≡ same_truth sign y
      → truth st xs (or_if sign a b) ≡ same_truth sign (x || y)
  or-truth true a b x y h k = ap2 (λ u v. u || v) h k
  or-truth false a b x y h k = ap2 (λ u v. u && v) h k ∙ not-or x y

  pub chosen-truth : (above : ℕ) (c : Condition) (x : Bool) → ((sign : Bool) → truth st xs (c sign above) ≡ same_truth sign x)
      → (a b : Formula) (r : Bool) → (x ≡ true → truth st xs a ≡ r) → (x ≡ false → truth st xs b ≡ r) → truth st xs (chosen above c a b) ≡ r
  chosen-truth above c true h a b r p q =
      ap2 (λ u v. (u && truth st xs a) || (v && truth st xs b)) (h true) (h false) ∙ or-false (truth st xs a) ∙ p refl
  chosen-truth above c false h a b r p q =
      ap2 (λ u v. (u && truth st xs a) || (v && truth st xs b)) (h true) (h false) ∙ q refl

  pub exists-truth : (sign : Bool) (sort : ℕ) (body : Formula) (ids : List ℕ) (P : ℕ → Bool) → size_of st sort ≡ length ids
      → ((k id : ℕ) → slice_get ids k ≡ Some id → truth st (xs ++ k ∷ []) body ≡ same_truth sign (P id))
      → truth st xs (exists_if sign sort body) ≡ same_truth sign (list_any P ids)
  exists-truth true sort body ids P size h =
      ap (λ n. list_any (λ x. truth st (xs ++ x ∷ []) body) (range_with_len 0 n)) size
      ∙ any-range (λ x. truth st (xs ++ x ∷ []) body) P ids 0 (λ k id e. let same : 0 + k ≡ k = omega arith in ap (λ x. truth st (xs ++ x ∷ []) body) same ∙ h k id e)
  exists-truth false sort body ids P size h =
      ap (λ n. list_all (λ x. truth st (xs ++ x ∷ []) body) (range_with_len 0 n)) size
      ∙ all-range (λ x. truth st (xs ++ x ∷ []) body) P ids 0 (λ k id e. let same : 0 + k ≡ k = omega arith in ap (λ x. truth st (xs ++ x ∷ []) body) same ∙ h k id e)

  -- the formulas are true of values of which one is true, of which all are
  abbrev pub AreAny : Bool → List Formula → Bool → Type 0
  AreAny sign [] b = b ≡ false
  AreAny sign (f ∷ fs) b = (x : Bool) × (y : Bool) × (b ≡ (x || y)) × (truth st xs f ≡ same_truth sign x) × AreAny sign fs y

  abbrev pub AreAll : Bool → List Formula → Bool → Type 0
  AreAll sign [] b = b ≡ true
  AreAll sign (f ∷ fs) b = (x : Bool) × (y : Bool) × (b ≡ (x && y)) × (truth st xs f ≡ same_truth sign x) × AreAll sign fs y

  fold-any : (sign : Bool) (f : Formula) (x : Bool) → truth st xs f ≡ same_truth sign x → (fs : List Formula) (y : Bool) → AreAny sign fs y
      → truth st xs (fold (or_if sign) f fs) ≡ same_truth sign (x || y)
  fold-any sign f x h [] y all = h ∙ ap (same_truth sign) (sym (or-false x)) ∙ ap (λ b. same_truth sign (x || b)) (sym all)
  fold-any sign f x h (g ∷ fs) y all =
      fold-any sign (or_if sign f g) (x || all.0) (or-truth sign f g x all.0 h all.3) fs all.1 all.4
      ∙ ap (same_truth sign) (or-assoc x all.0 all.1) ∙ ap (λ b. same_truth sign (x || b)) (sym all.2)

  fold-all : (sign : Bool) (f : Formula) (x : Bool) → truth st xs f ≡ same_truth sign x → (fs : List Formula) (y : Bool) → AreAll sign fs y
      → truth st xs (fold (and_if sign) f fs) ≡ same_truth sign (x && y)
  fold-all sign f x h [] y all = h ∙ ap (same_truth sign) (sym (and-true x)) ∙ ap (λ b. same_truth sign (x && b)) (sym all)
  fold-all sign f x h (g ∷ fs) y all =
      fold-all sign (and_if sign f g) (x && all.0) (and-truth sign f g x all.0 h all.3) fs all.1 all.4
      ∙ ap (same_truth sign) (and-assoc x all.0 all.1) ∙ ap (λ b. same_truth sign (x && b)) (sym all.2)

  pub any-truth : (sign : Bool) (fs : List Formula) (b : Bool) → AreAny sign fs b → truth st xs (any_if sign fs) ≡ same_truth sign b
  any-truth sign [] b all = constant-truth (not sign) ∙ same-unsign sign ∙ ap (same_truth sign) (sym all)
  any-truth sign (f ∷ fs) b all = fold-any sign f all.0 all.3 fs all.1 all.4 ∙ ap (same_truth sign) (sym all.2)

  pub all-truth : (sign : Bool) (fs : List Formula) (b : Bool) → AreAll sign fs b → truth st xs (all_if sign fs) ≡ same_truth sign b
  all-truth sign [] b all = constant-truth sign ∙ same-sign sign ∙ ap (same_truth sign) (sym all)
  all-truth sign (f ∷ fs) b all = fold-all sign f all.0 all.3 fs all.1 all.4 ∙ ap (same_truth sign) (sym all.2)
