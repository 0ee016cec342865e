-- Structures of the same sizes and functions, whose set relations relate the same elements, tell the same.
use Rattle.std.proofs.Common.{◌≡◌, ℕ, Bool, not, ◌&&◌, ◌||◌, List, [], ◌∷◌, ◌++◌, refl, ap, ◌∙◌}
use Rattle.std.specs.Prelude.{Option, Some, None, is_some, int_lt, slice_index_or, option_and_then}
use Rattle.std.specs.List.{list_any, list_all, range_with_len}
use Rattle.data_meaning.proofs.Agreement.{ap2}
use Rattle.form_formula.specs.declared.structure.SVal.{SVal}
use Rattle.form_formula.specs.declared.structure.Structure.{Structure}
use Rattle.form_formula.specs.Trees.{Term, Formula, bound, num, str, app, yes, no, equal, less, has, flag, present, negation, both, either, exists, forall}
use Rattle.form_formula.specs.Truth.{elements, entry, relates, element_of, number_of, both_pass, are_equal, value_of, element_at, entry_at, is_true_value, truth}

any-same : (f g : ℕ → Bool) (xs : List ℕ) → ((x : ℕ) → f x ≡ g x) → list_any f xs ≡ list_any g xs
any-same f g [] same = refl
any-same f g (x ∷ xs) same = ap2 (λ a b. a || b) (same x) (any-same f g xs same)

all-same : (f g : ℕ → Bool) (xs : List ℕ) → ((x : ℕ) → f x ≡ g x) → list_all f xs ≡ list_all g xs
all-same f g [] same = refl
all-same f g (x ∷ xs) same = ap2 (λ a b. a && b) (same x) (all-same f g xs same)

module _ (a b : Structure) (sizes : a.sizes ≡ b.sizes) (functions : a.funs ≡ b.funs)
    (related : (r x y : ℕ) → relates a r x y ≡ relates b r x y) where
  same-entries : (h : ℕ) → entry a h ≡ entry b h
  same-entries h = ap (λ (funs : List (List (Option SVal))). λ (x : ℕ). slice_index_or (slice_index_or funs h []) x None) functions

  same-value : (env : List ℕ) (t : Term) → value_of a env t ≡ value_of b env t
  same-value env (bound sort depth) = refl
  same-value env (num n) = refl
  same-value env (str t) = refl
  same-value env (app f t) = ap2 (λ e o. option_and_then e (option_and_then element_of o)) (same-entries f) (same-value env t)

  same-entry : (env : List ℕ) (h : ℕ) (t : Term) → entry_at a env h t ≡ entry_at b env h t
  same-entry env h t = ap2 (λ e o. option_and_then e (option_and_then element_of o)) (same-entries h) (same-value env t)

  same-related : (r : ℕ) (o p : Option ℕ) → both_pass (relates a r) o p ≡ both_pass (relates b r) o p
  same-related r None p = refl
  same-related r (Some x) None = refl
  same-related r (Some x) (Some y) = related r x y

  same-elements : (sort : ℕ) → elements a sort ≡ elements b sort
  same-elements sort = ap (λ (ns : List ℕ). range_with_len 0 (slice_index_or ns sort 0)) sizes

  pub same-truth : (env : List ℕ) (f : Formula) → truth a env f ≡ truth b env f
  same-truth env yes = refl
  same-truth env no = refl
  same-truth env (equal t u) = ap2 (both_pass are_equal) (same-value env t) (same-value env u)
  same-truth env (less t u) = ap2 (λ o p. both_pass int_lt (option_and_then number_of o) (option_and_then number_of p)) (same-value env t) (same-value env u)
  same-truth env (has r t u) =
      ap2 (λ o p. both_pass (relates a r) (option_and_then element_of o) (option_and_then element_of p)) (same-value env t) (same-value env u)
      ∙ same-related r (element_at b env t) (element_at b env u)
  same-truth env (flag h t) = ap is_true_value (same-entry env h t)
  same-truth env (present h t) = ap is_some (same-entry env h t)
  same-truth env (negation f) = ap not (same-truth env f)
  same-truth env (both f g) = ap2 (λ x y. x && y) (same-truth env f) (same-truth env g)
  same-truth env (either f g) = ap2 (λ x y. x || y) (same-truth env f) (same-truth env g)
  same-truth env (exists sort f) =
      ap (list_any (λ x. truth a (env ++ x ∷ []) f)) (same-elements sort)
      ∙ any-same (λ x. truth a (env ++ x ∷ []) f) (λ x. truth b (env ++ x ∷ []) f) (elements b sort) (λ x. same-truth (env ++ x ∷ []) f)
  same-truth env (forall sort f) =
      ap (list_all (λ x. truth a (env ++ x ∷ []) f)) (same-elements sort)
      ∙ all-same (λ x. truth a (env ++ x ∷ []) f) (λ x. truth b (env ++ x ∷ []) f) (elements b sort) (λ x. same-truth (env ++ x ∷ []) f)
