-- The normal form keeps truth, and is normal.
use Rattle.std.proofs.Common.{◌≡◌, ℕ, Bool, true, false, not, ◌&&◌, ◌||◌, refl, sym, ◌∙◌, List, [], ◌∷◌, ◌++◌, ap}
use Rattle.std.specs.List.{list_any, list_all}
use Rattle.form_formula.specs.declared.structure.Structure.{Structure}
use Rattle.form_formula.specs.Trees.{Formula, yes, no, equal, less, has, flag, present, negation, both, either, exists, forall}
use Rattle.form_formula.specs.Truth.{truth, elements}
use Rattle.form_formula.specs.NormalForm.{signed_form, IsNormal}

-- a truth value, or its opposite
abbrev signed_value : Bool → Bool → Bool
signed_value true b = b
signed_value false b = not b

not-and : (a b : Bool) → not (a && b) ≡ (not a || not b)
not-and true b = refl
not-and false b = refl

not-or : (a b : Bool) → not (a || b) ≡ (not a && not b)
not-or true b = refl
not-or false b = refl

not-not : (a : Bool) → not (not a) ≡ a
not-not true = refl
not-not false = refl

not-any : (p : ℕ → Bool) (xs : List ℕ) → not (list_any p xs) ≡ list_all (λ x. not (p x)) xs
not-any p [] = refl
not-any p (x ∷ xs) = not-or (p x) (list_any p xs) ∙ ap (λ b. not (p x) && b) (not-any p xs)

not-all : (p : ℕ → Bool) (xs : List ℕ) → not (list_all p xs) ≡ list_any (λ x. not (p x)) xs
not-all p [] = refl
not-all p (x ∷ xs) = not-and (p x) (list_all p xs) ∙ ap (λ b. not (p x) || b) (not-all p xs)

same_any : (p q : ℕ → Bool) (xs : List ℕ) → ((x : ℕ) → p x ≡ q x) → list_any p xs ≡ list_any q xs
same_any p q [] h = refl
same_any p q (x ∷ xs) h = let here = h x in let later = same_any p q xs h in cc

same_all : (p q : ℕ → Bool) (xs : List ℕ) → ((x : ℕ) → p x ≡ q x) → list_all p xs ≡ list_all q xs
same_all p q [] h = refl
same_all p q (x ∷ xs) h = let here = h x in let later = same_all p q xs h in cc

module _ (s : Structure) where
  pub truth-signed_form : (sign : Bool) (env : List ℕ) (f : Formula) → truth s env (signed_form sign f) ≡ signed_value sign (truth s env f)
  truth-signed_form true env yes = refl
  truth-signed_form false env yes = refl
  truth-signed_form true env no = refl
  truth-signed_form false env no = refl
  truth-signed_form true env (equal t u) = refl
  truth-signed_form false env (equal t u) = refl
  truth-signed_form true env (less t u) = refl
  truth-signed_form false env (less t u) = refl
  truth-signed_form true env (has r t u) = refl
  truth-signed_form false env (has r t u) = refl
  truth-signed_form true env (flag f t) = refl
  truth-signed_form false env (flag f t) = refl
  truth-signed_form true env (present f t) = refl
  truth-signed_form false env (present f t) = refl
  truth-signed_form true env (negation a) = truth-signed_form false env a
  truth-signed_form false env (negation a) = truth-signed_form true env a ∙ sym (not-not (truth s env a))
  truth-signed_form true env (both a b) = let p = truth-signed_form true env a in let q = truth-signed_form true env b in cc
  truth-signed_form false env (both a b) =
      let p = truth-signed_form false env a in let q = truth-signed_form false env b in let r = not-and (truth s env a) (truth s env b) in cc
  truth-signed_form true env (either a b) = let p = truth-signed_form true env a in let q = truth-signed_form true env b in cc
  truth-signed_form false env (either a b) =
      let p = truth-signed_form false env a in let q = truth-signed_form false env b in let r = not-or (truth s env a) (truth s env b) in cc
  truth-signed_form true env (exists sort a) = same_any _ _ (elements s sort) (λ x. truth-signed_form true (env ++ x ∷ []) a)
  truth-signed_form false env (exists sort a) =
      same_all _ _ (elements s sort) (λ x. truth-signed_form false (env ++ x ∷ []) a) ∙ sym (not-any (λ x. truth s (env ++ x ∷ []) a) (elements s sort))
  truth-signed_form true env (forall sort a) = same_all _ _ (elements s sort) (λ x. truth-signed_form true (env ++ x ∷ []) a)
  truth-signed_form false env (forall sort a) =
      same_any _ _ (elements s sort) (λ x. truth-signed_form false (env ++ x ∷ []) a) ∙ sym (not-all (λ x. truth s (env ++ x ∷ []) a) (elements s sort))

pub IsNormal-signed_form : (sign : Bool) (f : Formula) → IsNormal (signed_form sign f)
IsNormal-signed_form true yes = tt
IsNormal-signed_form false yes = tt
IsNormal-signed_form true no = tt
IsNormal-signed_form false no = tt
IsNormal-signed_form true (equal t u) = tt
IsNormal-signed_form false (equal t u) = tt
IsNormal-signed_form true (less t u) = tt
IsNormal-signed_form false (less t u) = tt
IsNormal-signed_form true (has r t u) = tt
IsNormal-signed_form false (has r t u) = tt
IsNormal-signed_form true (flag f t) = tt
IsNormal-signed_form false (flag f t) = tt
IsNormal-signed_form true (present f t) = tt
IsNormal-signed_form false (present f t) = tt
IsNormal-signed_form true (negation a) = IsNormal-signed_form false a
IsNormal-signed_form false (negation a) = IsNormal-signed_form true a
IsNormal-signed_form true (both a b) = (IsNormal-signed_form true a, IsNormal-signed_form true b)
IsNormal-signed_form false (both a b) = (IsNormal-signed_form false a, IsNormal-signed_form false b)
IsNormal-signed_form true (either a b) = (IsNormal-signed_form true a, IsNormal-signed_form true b)
IsNormal-signed_form false (either a b) = (IsNormal-signed_form false a, IsNormal-signed_form false b)
IsNormal-signed_form true (exists sort a) = IsNormal-signed_form true a
IsNormal-signed_form false (exists sort a) = IsNormal-signed_form false a
IsNormal-signed_form true (forall sort a) = IsNormal-signed_form true a
IsNormal-signed_form false (forall sort a) = IsNormal-signed_form false a
