-- Names that stand in the order of what they are the names of.
use Rattle.std.proofs.Common.{◌≡◌, ℕ, zero, suc, Bool, false, ◌||◌, cond, List, [], ◌∷◌, ◌++◌, ◌+◌, refl, ap, sym, ◌∙◌, get_or, set, length, map, take, drop, not}
use Rattle.std.specs.Prelude.{Some, None, nat_lt, position, remove}
use Rattle.std.specs.List.{list_any, position_or_len, drop-map, take-map}
use Rattle.std.specs.Str.{bytes_eq}
use Rattle.std.proofs.lemmas.Cmp.{nat_list_eq_equiv}
use Rattle.std.proofs.lemmas.List.{length-map, map-append}
use Rattle.data_records.proofs.NewNumbers.{place-seen}

-- whichever of two names is compared with the other
any-same : {A : Type 0} (p q : A → Bool) → ((x : A) → p x ≡ q x) → (xs : List A) → list_any p xs ≡ list_any q xs
any-same p q same [] = refl
any-same p q same (x ∷ xs) = ap (λ b. b || list_any p xs) (same x) ∙ ap (λ b. q x || b) (any-same p q same xs)

place-same : {A : Type 0} (p q : A → Bool) → ((x : A) → p x ≡ q x) → (xs : List A) → position_or_len p xs ≡ position_or_len q xs
place-same p q same [] = refl
place-same p q same (x ∷ xs) = ap (λ b. cond (not b) (1 + position_or_len p xs) 0) (same x) ∙ ap (λ n. cond (not (q x)) (1 + n) 0) (place-same p q same xs)

any-seen : {A B : Type 0} (p : B → Bool) (f : A → B) (xs : List A) → list_any p (map f xs) ≡ list_any (λ x. p (f x)) xs
any-seen p f [] = refl
any-seen p f (x ∷ xs) = ap (λ b. p (f x) || b) (any-seen p f xs)

module _ {K A : Type 0} (key : K → List ℕ) (name : A → List ℕ) (ks : List K) (xs : List A) (same : map key ks ≡ map name xs) where
  long : length ks ≡ length xs
  long = sym (length-map ks key) ∙ ap length same ∙ length-map xs name

  place-is : (n : List ℕ) → position_or_len (λ k. bytes_eq n (key k)) ks ≡ position_or_len (λ x. bytes_eq (name x) n) xs
  place-is n =
      sym (place-seen (bytes_eq n) key ks) ∙ ap (position_or_len (bytes_eq n)) same ∙ place-seen (bytes_eq n) name xs
      ∙ place-same (λ x. bytes_eq n (name x)) (λ x. bytes_eq (name x) n) (λ x. nat_list_eq_equiv.symm n (name x)) xs

  -- a name stands where the first of that name does
  pub placed-by : (n : List ℕ) → position (λ k. bytes_eq n (key k)) ks ≡ position (λ x. bytes_eq (name x) n) xs
  placed-by n =
      ap (λ i. cond (nat_lt i (length ks)) (Some i) None) (place-is n)
      ∙ ap (λ l. cond (nat_lt (position_or_len (λ x. bytes_eq (name x) n) xs) l) (Some (position_or_len (λ x. bytes_eq (name x) n) xs)) None) long

  any-is : (n : List ℕ) → list_any (λ k. bytes_eq n (key k)) ks ≡ list_any (λ x. bytes_eq (name x) n) xs
  any-is n =
      sym (any-seen (bytes_eq n) key ks) ∙ ap (list_any (bytes_eq n)) same ∙ any-seen (bytes_eq n) name xs
      ∙ any-same (λ x. bytes_eq n (name x)) (λ x. bytes_eq (name x) n) (λ x. nat_list_eq_equiv.symm n (name x)) xs

  -- one more, of a new name
  pub names-more : (n : List ℕ) (k : K) (x : A) (after : List K) → list_any (λ y. bytes_eq (name y) n) xs ≡ false → key k ≡ n → name x ≡ n
      → after ≡ cond (list_any (λ j. bytes_eq (key k) (key j)) ks) ks (ks ++ k ∷ []) → map key after ≡ map name (xs ++ x ∷ [])
  names-more n k x after none is of more =
      let new : list_any (λ j. bytes_eq (key k) (key j)) ks ≡ false = ap (λ m. list_any (λ j. bytes_eq m (key j)) ks) is ∙ any-is n ∙ none in
      ap (map key) (more ∙ ap (λ b. cond b ks (ks ++ k ∷ [])) new) ∙ map-append key ks (k ∷ []) ∙ ap (λ ns. ns ++ key k ∷ []) same
      ∙ ap (λ m. map name xs ++ m ∷ []) (is ∙ sym of) ∙ sym (map-append name xs (x ∷ []))

  -- one less
  pub names-less : (i : ℕ) → map key (remove ks i) ≡ map name (remove xs i)
  names-less i = removed key ks i ∙ ap (λ ns. remove ns i) same ∙ sym (removed name xs i)
    where
      removed : {B : Type 0} (f : B → List ℕ) (ys : List B) (j : ℕ) → map f (remove ys j) ≡ remove (map f ys) j
      removed f ys j = map-append f (take j ys) (drop (suc j) ys) ∙ ap (λ ns. ns ++ map f (drop (suc j) ys)) (sym (take-map f j ys)) ∙ ap (λ ns. take j (map f ys) ++ ns) (sym (drop-map f (suc j) ys))

-- a change that keeps the name
pub names-kept : {A : Type 0} (name : A → List ℕ) (xs : List A) (i : ℕ) (x d : A) → name x ≡ name (get_or xs i d) → map name (set xs i x) ≡ map name xs
names-kept name [] i x d is = refl
names-kept name (y ∷ xs) zero x d is = ap (λ n. n ∷ map name xs) is
names-kept name (y ∷ xs) (suc i) x d is = ap (λ ns. name y ∷ ns) (names-kept name xs i x d is)
