-- Lists of nodes without repetition.
use Rattle.std.proofs.Common.{◌≡◌, ℕ, zero, suc, ◌+◌, ◌≤◌, Bool, true, false, not, ◌||◌, List, [], ◌∷◌, ◌++◌, length, take, refl, ap, sym, ◌∙◌, subst, cond, nat_eq, arith}
use Rattle.std.specs.Prelude.{Some, None, slice_get}
use Rattle.std.specs.List.{IsDistinct, AllByRecursion}
use Rattle.std.proofs.lemmas.Bool.{eqb-true, eq-eqb, false≢true}
use Rattle.std.proofs.lemmas.List.{append-nil}
use Rattle.link_arena.specs.Lists.{is_in, next_in, EachOnce}
use Rattle.link_arena.specs.Lists as arena

pub alone : (order : List ℕ) → EachOnce (order ∷ []) → IsDistinct nat_eq order
alone order each = subst (λ (xs : List ℕ). IsDistinct nat_eq xs) (append-nil order) each

keeps-all : (x : ℕ) (xs : List ℕ) → AllByRecursion (λ y. nat_eq x y ≡ false) xs → arena.without x xs ≡ xs
keeps-all x [] h = refl
keeps-all x (y ∷ ys) h = ap (λ b. cond (not b) (y ∷ arena.without x ys) (arena.without x ys)) h.0 ∙ ap (λ zs. y ∷ zs) (keeps-all x ys h.1)

pub without-first : (x : ℕ) (xs : List ℕ) → IsDistinct nat_eq (x ∷ xs) → arena.without x (x ∷ xs) ≡ xs
unfolding IsDistinct
without-first x xs h = ap (λ b. cond (not b) (x ∷ arena.without x xs) (arena.without x xs)) (eq-eqb x x refl) ∙ keeps-all x xs h.0

-- one that is not there
pub without-absent : (x : ℕ) (xs : List ℕ) → is_in x xs ≡ false → arena.without x xs ≡ xs
without-absent x [] h = refl
without-absent x (y ∷ ys) h =
    elim (nat_eq x y) as (λ (b : Bool). (b || is_in x ys) ≡ false → cond (not b) (y ∷ arena.without x ys) (arena.without x ys) ≡ y ∷ ys) [
      | true ↦ λ here. absurd (false≢true (sym here))
      | false ↦ λ rest. ap (λ zs. y ∷ zs) (without-absent x ys rest)
    ] h

-- one that is there is taken out
pub length-without : (x : ℕ) (xs : List ℕ) → IsDistinct nat_eq xs → is_in x xs ≡ true → length (arena.without x xs) + 1 ≡ length xs
unfolding IsDistinct
length-without x [] h there = absurd (false≢true there)
length-without x (y ∷ ys) h there =
    elim (nat_eq x y) as (λ (b : Bool). nat_eq x y ≡ b → (b || is_in x ys) ≡ true → length (cond (not b) (y ∷ arena.without x ys) (arena.without x ys)) + 1 ≡ suc (length ys)) [
      | true ↦ λ e here.
          let same : y ≡ x = sym (eqb-true x y e) in
          let kept : arena.without x ys ≡ ys = keeps-all x ys (subst (λ (z : ℕ). AllByRecursion (λ w. nat_eq z w ≡ false) ys) same h.0) in
          let long : length (arena.without x ys) ≡ length ys = ap length kept in
          omega (arith, long)
      | false ↦ λ e later.
          let long : length (arena.without x ys) + 1 ≡ length ys = length-without x ys h.1 later in
          omega (arith, long)
    ] refl there

-- the place behind one
pub next-at : (xs : List ℕ) (i x : ℕ) → IsDistinct nat_eq xs → slice_get xs i ≡ Some x → next_in x xs ≡ slice_get xs (suc i)
unfolding IsDistinct
next-at [] i x h at = cc
next-at (y ∷ ys) zero x h at =
    let same : y ≡ x = cc in
    ap (λ b. cond b (slice_get ys 0) (next_in x ys)) (eq-eqb x y (sym same))
next-at (y ∷ ys) (suc i) x h at =
    elim (nat_eq x y) as (λ (b : Bool). nat_eq x y ≡ b → cond b (slice_get ys 0) (next_in x ys) ≡ slice_get ys (suc i)) [
      | true ↦ λ e. absurd (differs ys i x y h.0 at (sym (eqb-true x y e)))
      | false ↦ λ e. next-at ys i x h.1 at
    ] refl
  where
    differs : (ys : List ℕ) (i x y : ℕ) → AllByRecursion (λ z. nat_eq y z ≡ false) ys → slice_get ys i ≡ Some x → y ≡ x → ⊥
    differs [] i x y h at same = let no : None ≡ Some x = at in cc
    differs (z ∷ ys) zero x y h at same =
        let is : z ≡ x = cc in
        false≢true (sym h.0 ∙ eq-eqb y z (same ∙ sym is))
    differs (z ∷ ys) (suc i) x y h at same = differs ys i x y h.1 at same

pub in-at : (xs : List ℕ) (i x : ℕ) → slice_get xs i ≡ Some x → is_in x xs ≡ true
in-at [] i x at = cc
in-at (y ∷ ys) zero x at = let same : y ≡ x = cc in ap (λ b. b || is_in x ys) (eq-eqb x y (sym same))
in-at (y ∷ ys) (suc i) x at = or-last (nat_eq x y) (is_in x ys) (in-at ys i x at)
  where
    or-last : (a b : Bool) → b ≡ true → (a || b) ≡ true
    or-last true b h = refl
    or-last false b h = h

-- behind the end
pub take-whole : (xs : List ℕ) (i n : ℕ) → slice_get xs i ≡ None → i ≤ n → take i xs ≡ take n xs
take-whole [] zero zero at le = refl
take-whole [] zero (suc n) at le = refl
take-whole [] (suc i) zero at le = absurd (omega (arith, le))
take-whole [] (suc i) (suc n) at le = refl
take-whole (x ∷ xs) zero n at le = cc
take-whole (x ∷ xs) (suc i) zero at le = absurd (omega (arith, le))
take-whole (x ∷ xs) (suc i) (suc n) at le = ap (λ ys. x ∷ ys) (take-whole xs i n at (omega (arith, le)))

pub take-next : (xs : List ℕ) (i x : ℕ) → slice_get xs i ≡ Some x → take (suc i) xs ≡ take i xs ++ x ∷ []
take-next [] i x at = cc
take-next (y ∷ ys) zero x at = let same : y ≡ x = cc in ap (λ z. z ∷ []) same
take-next (y ∷ ys) (suc i) x at = ap (λ zs. y ∷ zs) (take-next ys i x at)
