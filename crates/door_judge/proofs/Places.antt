-- The first element that passes a test.
use Rattle.std.proofs.Common.{◌≡◌, ℕ, zero, suc, Bool, true, false, ◌||◌, List, [], ◌∷◌, Option, None, Some, refl, ap, sym, ◌∙◌, subst, cond, arith, get_or, set, is_some}
use Rattle.std.specs.Prelude.{position, remove, slice_get}
use Rattle.std.specs.List.{find, list_any}
use Rattle.std.proofs.lemmas.List.{map-id}
use Rattle.std.proofs.lemmas.List.Folds.{find_at}
use Rattle.data_records.specs.Changed.{change_first}
use Rattle.data_records.specs.Removed.{without_first}
use Rattle.data_records.specs.Rising.{IsFirstAt}
use Rattle.data_records.proofs.NewNumbers.{place-some}
use Rattle.data_records.proofs.Firsts.{first-from_position, none-from_position, put-at, taken-at}

module _ {A : Type 0} (p : A → Bool) where
  pub any_first : (xs : List A) (i : ℕ) → IsFirstAt p xs i → list_any p xs ≡ true
  any_first [] i f = absurd (omega (arith, f.0))
  any_first (x ∷ xs) zero f = subst (λ b. (b || list_any p xs) ≡ true) (sym (f.1 x)) refl
  any_first (x ∷ xs) (suc i) f =
      subst (λ b. (b || list_any p xs) ≡ true) (sym (f.2 0 x (omega arith)))
      (any_first xs i (omega (arith, f.0), (λ e. f.1 e), (λ k e less. f.2 (suc k) e (omega arith))))

  pub found_first : (xs : List A) (i : ℕ) (d : A) → IsFirstAt p xs i → find p xs ≡ Some (get_or xs i d)
  found_first [] i d f = absurd (omega (arith, f.0))
  found_first (x ∷ xs) zero d f = subst (λ b. cond b (Some x) (find p xs) ≡ Some x) (sym (f.1 x)) refl
  found_first (x ∷ xs) (suc i) d f =
      subst (λ b. cond b (Some x) (find p xs) ≡ Some (get_or xs i d)) (sym (f.2 0 x (omega arith)))
      (found_first xs i d (omega (arith, f.0), (λ e. f.1 e), (λ k e less. f.2 (suc k) e (omega arith))))

  none_any : (xs : List A) → find p xs ≡ None → list_any p xs ≡ false
  none_any [] none = refl
  none_any (x ∷ xs) none =
      elim (p x) as (λ (b : Bool). cond b (Some x) (find p xs) ≡ None → (b || list_any p xs) ≡ false) [
        | true ↦ λ h. cc
        | false ↦ λ h. none_any xs h
      ] none

  pub nowhere : (xs : List A) → position p xs ≡ None → list_any p xs ≡ false
  nowhere xs none = none_any xs (none-from_position p xs none)

  -- a list with such a place has an element
  first_at : (xs : List A) (i : ℕ) → position p xs ≡ Some i → IsFirstAt p xs i
  first_at [] i e = absurd (let never : ⊥ = cc in never)
  first_at (x ∷ xs) i e = first-from_position p (x ∷ xs) i e x

  pub somewhere : (xs : List A) (i : ℕ) → position p xs ≡ Some i → list_any p xs ≡ true
  somewhere xs i e = any_first xs i (first_at xs i e)

  pub found_there : (xs : List A) (i : ℕ) → position p xs ≡ Some i → (x : A) × (find p xs ≡ Some x) × (slice_get xs i ≡ Some x)
  found_there [] i e = absurd (let never : ⊥ = cc in never)
  found_there (x ∷ xs) i e =
      let found = found_first (x ∷ xs) i x (first_at (x ∷ xs) i e) in
      (get_or (x ∷ xs) i x, found, ap (slice_get (x ∷ xs)) (place-some p (x ∷ xs) i e) ∙ sym (find_at p (x ∷ xs)) ∙ found)

  pub found_at : (xs : List A) (i : ℕ) (x : A) → position p xs ≡ Some i → x ≡ get_or xs i x → Some x ≡ find p xs
  found_at xs i x e is = ap Some is ∙ sym (found_first xs i x (first-from_position p xs i e x))

  pub removed_at : (xs : List A) (i : ℕ) → position p xs ≡ Some i → remove xs i ≡ without_first p xs
  removed_at xs i e = sym (map-id (remove xs i)) ∙ taken-at (λ (x : A). x) p xs i (first_at xs i e) ∙ ap (without_first p) (map-id xs)

  pub changed_at : (change : A → A) (xs : List A) (i : ℕ) (d : A) → position p xs ≡ Some i → set xs i (change (get_or xs i d)) ≡ change_first p change xs
  changed_at change xs i d e =
      sym (map-id (set xs i (change (get_or xs i d))))
      ∙ put-at (λ (x : A). x) p change xs i (change (get_or xs i d)) d (first_at xs i e) refl ∙ ap (change_first p change) (map-id xs)

  pub any_placed : (xs : List A) (o : Option ℕ) → o ≡ position p xs → is_some o ≡ list_any p xs
  any_placed xs None e = sym (nowhere xs (sym e))
  any_placed xs (Some i) e = sym (somewhere xs i (sym e))

-- the place that a call gives, of the name that it was given
pub placed : {A : Type 0} (is : List ℕ → A → Bool) (n m : List ℕ) (xs : List A) (o found : Option ℕ) → m ≡ n → o ≡ position (is m) xs → o ≡ found → position (is n) xs ≡ found
placed is n m xs o found e g h = ap (λ (k : List ℕ). position (is k) xs) (sym e) ∙ sym g ∙ h
