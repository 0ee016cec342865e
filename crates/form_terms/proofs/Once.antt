-- Lists that are made of lists without repeats have none.
use Rattle.std.proofs.Common.{◌≡◌, ℕ, zero, suc, ◌+◌, inl, inr, Bool, true, false, refl, sym, ◌∙◌, List, [], ◌∷◌, ◌++◌, cond, subst, arith, Contains, map}
use Rattle.std.specs.List.{list_any, filter, flat_map, range_with_len}
use Rattle.std.proofs.lemmas.List.Elements.{Contains-append_cases}
use Rattle.form_terms.specs.Listing.{HasNoRepeats, unique}
use Rattle.form_terms.proofs.Lists.{Contains-flat_map, Contains-head, Contains-tail, range-within}
use Rattle.form_terms.proofs.Kept.{list_any-from}
use Rattle.form_terms.proofs.Listed.{in_filter, in_map, to_map, from_unique}

pub append-HasNoRepeats : {A : Type 0} (xs ys : List A) → HasNoRepeats xs → HasNoRepeats ys → ((x : A) → Contains xs x → Contains ys x → ⊥) → HasNoRepeats (xs ++ ys)
append-HasNoRepeats [] ys h k apart = k
append-HasNoRepeats (x ∷ xs) ys h k apart = (
  λ c. elim (Contains-append_cases xs ys x c) [
    | inl here ↦ h.0 here
    | inr there ↦ apart x (Contains-head x xs) there
  ],
  append-HasNoRepeats xs ys h.1 k (λ y c d. apart y (Contains-tail x xs y c) d),
)

pub map-HasNoRepeats : {A B : Type 0} (h : A → B) → ((x y : A) → h x ≡ h y → x ≡ y) → (xs : List A) → HasNoRepeats xs → HasNoRepeats (map h xs)
map-HasNoRepeats h one [] n = tt
map-HasNoRepeats {A} h one (x ∷ xs) n = (
  λ c.
      let found = in_map h xs (h x) c in
      let P : A → Type 0 = λ y. Contains xs y in
      n.0 (subst P (one found.0 x found.2) found.1),
  map-HasNoRepeats h one xs n.1,
)

-- where a mark of the elements tells from which list they come
pub flat_map-HasNoRepeats : {A B K : Type 0} (h : A → List B) (tag : A → K) (mark : B → K) (xs : List A) → HasNoRepeats (map tag xs)
    → ((x : A) → Contains xs x → HasNoRepeats (h x)) → ((x : A) (y : B) → Contains xs x → Contains (h x) y → mark y ≡ tag x) → HasNoRepeats (flat_map h xs)
flat_map-HasNoRepeats h tag mark [] n each marked = tt
flat_map-HasNoRepeats {A} {B} {K} h tag mark (x ∷ xs) n each marked =
    append-HasNoRepeats (h x) (flat_map h xs) (each x (Contains-head x xs))
    (flat_map-HasNoRepeats h tag mark xs n.1 (λ y c. each y (Contains-tail x xs y c)) (λ y z c d. marked y z (Contains-tail x xs y c) d))
    (λ y here there.
    let found = Contains-flat_map h xs y there in
    let same : tag found.0 ≡ tag x = sym (marked found.0 y (Contains-tail x xs found.0 found.1) found.2) ∙ marked x y (Contains-head x xs) here in
    let P : K → Type 0 = λ k. Contains (map tag xs) k in
    n.0 (subst P same (to_map tag xs found.0 found.1)))

pub map_filter-HasNoRepeats : {A K : Type 0} (tag : A → K) (p : A → Bool) (xs : List A) → HasNoRepeats (map tag xs) → HasNoRepeats (map tag (filter p xs))
map_filter-HasNoRepeats tag p [] n = tt
map_filter-HasNoRepeats {A} {K} tag p (x ∷ xs) n = choose (map_filter-HasNoRepeats tag p xs n.1) (p x)
  where
    choose : HasNoRepeats (map tag (filter p xs)) → (b : Bool) → HasNoRepeats (map tag (cond b (x ∷ filter p xs) (filter p xs)))
    choose later true = (
      λ c.
          let found = in_map tag (filter p xs) (tag x) c in
          let P : K → Type 0 = λ k. Contains (map tag xs) k in
          n.0 (subst P found.2 (to_map tag xs found.0 (in_filter p xs found.0 found.1).0)),
      later,
    )
    choose later false = later

pub unique-HasNoRepeats : {A : Type 0} (same : A → A → Bool) → ((x : A) → same x x ≡ true) → (xs : List A) → HasNoRepeats (unique same xs)
unique-HasNoRepeats same itself [] = tt
unique-HasNoRepeats same itself (x ∷ xs) = choose (unique-HasNoRepeats same itself xs) (list_any (same x) xs) refl
  where
    choose : HasNoRepeats (unique same xs) → (b : Bool) → list_any (same x) xs ≡ b → HasNoRepeats (cond b (unique same xs) (x ∷ unique same xs))
    choose later true e = later
    choose later false e = (
      λ c.
          let found = list_any-from (same x) xs x (from_unique same xs x c) (itself x) in
          let no' : true ≡ false = sym found ∙ e in cc,
      later,
    )

pub range-HasNoRepeats : (a n : ℕ) → HasNoRepeats (range_with_len a n)
range-HasNoRepeats a zero = tt
range-HasNoRepeats a (suc n) = (λ c. let low = range-within (a + 1) n a c in absurd (omega (arith, low.0)), range-HasNoRepeats (a + 1) n)
