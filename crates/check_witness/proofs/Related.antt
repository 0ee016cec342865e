-- The elements that pairs relate to one, and the ids of those below a size.
use Rattle.std.proofs.Common.{◌≡◌, ℕ, zero, suc, ◌+◌, Bool, true, false, ◌&&◌, ◌||◌, List, [], ◌∷◌, ◌++◌, map, refl, sym, ◌∙◌, ap, cond, arith, append-nil}
use Rattle.std.specs.Prelude.{◌==◌, filter, if◌then◌else◌}
use Rattle.std.specs.List.{list_any, range_with_len}

pub related-any : (x y : ℕ) (ps : List (ℕ × ℕ)) → list_any (λ z. z == y) (map (λ p. p.1) (filter (λ p. p.0 == x) ps)) ≡ list_any (λ p. (p.0 == x) && (p.1 == y)) ps
related-any x y [] = refl
related-any x y (p ∷ ps) =
    elim (p.0 == x) as (λ (b : Bool). list_any (λ z. z == y) (map (λ q. q.1) (cond b (p ∷ filter (λ q. q.0 == x) ps) (filter (λ q. q.0 == x) ps)))
    ≡ ((b && (p.1 == y)) || list_any (λ q. (q.0 == x) && (q.1 == y)) ps)) [
      | true ↦ ap (λ t. (p.1 == y) || t) (related-any x y ps)
      | false ↦ related-any x y ps
    ]

pub filter-same : {A : Type 0} (p q : A → Bool) → ((x : A) → p x ≡ q x) → (xs : List A) → filter p xs ≡ filter q xs
filter-same p q same [] = refl
filter-same p q same (x ∷ xs) =
    ap (λ b. cond b (x ∷ filter p xs) (filter p xs)) (same x) ∙ ap (λ ys. cond (q x) (x ∷ ys) ys) (filter-same p q same xs)

range-push : (n a : ℕ) → range_with_len a (suc n) ≡ range_with_len a n ++ (a + n) ∷ []
range-push zero a = let same : a ≡ a + 0 = omega arith in ap (λ x. x ∷ []) same
range-push (suc n) a =
    let same : (a + 1) + n ≡ a + suc n = omega arith in
    ap (λ xs. a ∷ xs) (range-push n (a + 1) ∙ ap (λ x. range_with_len (a + 1) n ++ x ∷ []) same)

range-next : (n : ℕ) → range_with_len 0 (n + 1) ≡ range_with_len 0 n ++ n ∷ []
range-next n =
    let one-more : n + 1 ≡ suc n = omega arith in
    let zero-plus : 0 + n ≡ n = omega arith in
    ap (range_with_len 0) one-more ∙ range-push n 0 ∙ ap (λ x. range_with_len 0 n ++ x ∷ []) zero-plus

map-push : {A : Type 0} (f : ℕ → A) (xs : List ℕ) (x : ℕ) → map f (xs ++ x ∷ []) ≡ map f xs ++ f x ∷ []
map-push f [] x = refl
map-push f (z ∷ xs) x = ap (λ ys. f z ∷ ys) (map-push f xs x)

pub map-range-next : {A : Type 0} (f : ℕ → A) (n : ℕ) → map f (range_with_len 0 (n + 1)) ≡ map f (range_with_len 0 n) ++ f n ∷ []
map-range-next f n = ap (map f) (range-next n) ∙ map-push f (range_with_len 0 n) n

module _ (p : ℕ → Bool) where
  push-yes : (xs : List ℕ) (x : ℕ) → p x ≡ true → map suc (filter p (xs ++ x ∷ [])) ≡ map suc (filter p xs) ++ suc x ∷ []
  push-yes [] x e = ap (λ b. map suc (cond b (x ∷ []) [])) e
  push-yes (z ∷ xs) x e =
      elim (p z) as (λ (b : Bool). map suc (cond b (z ∷ filter p (xs ++ x ∷ [])) (filter p (xs ++ x ∷ []))) ≡ map suc (cond b (z ∷ filter p xs) (filter p xs)) ++ suc x ∷ []) [
        | true ↦ ap (λ ys. suc z ∷ ys) (push-yes xs x e)
        | false ↦ push-yes xs x e
      ]

  push-no : (xs : List ℕ) (x : ℕ) → p x ≡ false → map suc (filter p (xs ++ x ∷ [])) ≡ map suc (filter p xs)
  push-no [] x e = ap (λ b. map suc (cond b (x ∷ []) [])) e
  push-no (z ∷ xs) x e =
      elim (p z) as (λ (b : Bool). map suc (cond b (z ∷ filter p (xs ++ x ∷ [])) (filter p (xs ++ x ∷ []))) ≡ map suc (cond b (z ∷ filter p xs) (filter p xs))) [
        | true ↦ ap (λ ys. suc z ∷ ys) (push-no xs x e)
        | false ↦ push-no xs x e
      ]

  pub ids-more : (n : ℕ) → map suc (filter p (range_with_len 0 (n + 1))) ≡ map suc (filter p (range_with_len 0 n)) ++ (if p n then (n + 1) ∷ [] else [])
  ids-more n =
      let one-more : suc n ≡ n + 1 = omega arith in
      ap (λ xs. map suc (filter p xs)) (range-next n)
      ∙ elim (p n) as (λ (b : Bool). p n ≡ b → map suc (filter p (range_with_len 0 n ++ n ∷ [])) ≡ map suc (filter p (range_with_len 0 n)) ++ (if b then (n + 1) ∷ [] else [])) [
        | true ↦ λ e. push-yes (range_with_len 0 n) n e ∙ ap (λ k. map suc (filter p (range_with_len 0 n)) ++ k ∷ []) one-more
        | false ↦ λ e. push-no (range_with_len 0 n) n e ∙ sym (append-nil (map suc (filter p (range_with_len 0 n))))
      ] refl
