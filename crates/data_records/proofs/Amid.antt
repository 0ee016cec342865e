-- Whether something is in a list that an element was put into, or taken out of.
use Rattle.std.proofs.Common.{◌≡◌, ℕ, zero, suc, ◌<◌, Bool, true, false, ◌||◌, List, [], ◌∷◌, ◌++◌, refl, ap, sym, ◌∙◌, arith, get_or, length, take, drop}
use Rattle.std.specs.Prelude.{◌==◌, insert, remove}
use Rattle.std.specs.List.{list_any}
use Rattle.std.specs.Ordering.{nat_cmp}
use Rattle.std.specs.declared.cmp.Ordering.TheVariants.{Equal}
use Rattle.std.proofs.lemmas.Bool.{eq-eqb, eqb-true}
use Rattle.std.proofs.lemmas.List.{take-append-drop}
use Rattle.std.proofs.lemmas.Map.Lookups.{exact_unsigned}

or-right : (a b : Bool) → b ≡ true → (a || b) ≡ true
or-right true b h = refl
or-right false b h = h

any-left : (p : ℕ → Bool) (xs ys : List ℕ) (x : ℕ) → list_any p (xs ++ ys) ≡ true → list_any p (xs ++ x ∷ ys) ≡ true
any-left p [] ys x h = or-right (p x) (list_any p ys) h
any-left p (y ∷ xs) ys x h =
    elim (p y) as (λ (b : Bool). (b || list_any p (xs ++ ys)) ≡ true → (b || list_any p (xs ++ x ∷ ys)) ≡ true) [
      | true ↦ λ k. refl
      | false ↦ λ k. any-left p xs ys x k
    ] h

pub any-inserted : (i : ℕ) (xs : List ℕ) (at x : ℕ) → list_any (λ j. j == i) xs ≡ true → list_any (λ j. j == i) (insert xs at x) ≡ true
any-inserted i xs at x there = any-left (λ j. j == i) (take at xs) (drop at xs) x (ap (list_any (λ j. j == i)) (take-append-drop at xs) ∙ there)

any-here : (i : ℕ) (xs ys : List ℕ) → list_any (λ j. j == i) (xs ++ i ∷ ys) ≡ true
any-here i [] ys = ap (λ b. b || list_any (λ j. j == i) ys) (eq-eqb i i refl)
any-here i (x ∷ xs) ys = or-right (x == i) (list_any (λ j. j == i) (xs ++ i ∷ ys)) (any-here i xs ys)

pub any-new : (i : ℕ) (xs : List ℕ) (at : ℕ) → list_any (λ j. j == i) (insert xs at i) ≡ true
any-new i xs at = any-here i (take at xs) (drop at xs)

pub any-at : (i at : ℕ) (xs : List ℕ) → at < length xs → ((d : ℕ) → nat_cmp (get_or xs at d) i ≡ Equal) → list_any (λ j. j == i) xs ≡ true
any-at i at [] below is = absurd (omega arith)
any-at i zero (x ∷ xs) below is = ap (λ b. b || list_any (λ j. j == i) xs) (eq-eqb x i (exact_unsigned x i (is 0)))
any-at i (suc at) (x ∷ xs) below is = or-right (x == i) (list_any (λ j. j == i) xs) (any-at i at xs (omega arith) is)

pub any-removed : (i x at : ℕ) (xs : List ℕ) → (i ≡ x → ⊥) → at < length xs → ((d : ℕ) → nat_cmp (get_or xs at d) x ≡ Equal) → list_any (λ j. j == i) xs ≡ true → list_any (λ j. j == i) (remove xs at) ≡ true
any-removed i x at [] differs below is there = absurd (omega arith)
any-removed i x zero (y ∷ xs) differs below is there =
    elim (y == i) as (λ (b : Bool). (y == i) ≡ b → (b || list_any (λ j. j == i) xs) ≡ true → list_any (λ j. j == i) xs ≡ true) [
      | true ↦ λ same h. absurd (differs (sym (eqb-true y i same) ∙ exact_unsigned y x (is 0)))
      | false ↦ λ same h. h
    ] refl there
any-removed i x (suc at) (y ∷ xs) differs below is there =
    elim (y == i) as (λ (b : Bool). (b || list_any (λ j. j == i) xs) ≡ true → (b || list_any (λ j. j == i) (remove xs at)) ≡ true) [
      | true ↦ λ h. refl
      | false ↦ λ h. any-removed i x at xs differs (omega arith) is h
    ] there
