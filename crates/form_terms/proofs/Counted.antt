-- The list of the terms that arise within so many rounds is as long as they are counted.
use Rattle.std.proofs.Common.{◌≡◌, ℕ, zero, suc, ◌+◌, ◌*◌, ◌<◌, ◌≤◌, inl, inr, Bool, true, false, refl, sym, ◌∙◌, List, [], ◌∷◌, ◌++◌, Some, None, Option, length, cond, ap, arith, Contains, map, length-append}
use Rattle.std.specs.Prelude.{◌==◌}
use Rattle.std.specs.List.{flat_map, filter, range_with_len}
use Rattle.std.proofs.lemmas.Bool.Decides.{eqb_tells}
use Rattle.std.proofs.lemmas.List.{length-map}
use Rattle.form_formula.specs.declared.structure.Signature.{Signature}
use Rattle.form_formula.specs.Trees.{Formula}
use Rattle.form_terms.specs.GroundTerms.{GroundTerm, GroundTerms, skolem, field, term_and, sort_of, source_of, target_of, is_number}
use Rattle.form_terms.specs.Listing.{with_each, of_sort, first_terms, functions, is_plain, skolem_variables, arguments, of_source, field_terms, skolem_terms, terms_after}
use Rattle.form_terms.specs.Counts.{sum_of, product_of, added_by_source, added_by_function, added_by_variable, count_after, terms_counted}
use Rattle.form_terms.proofs.Lists.{Contains-head, Contains-tail}

filter-append : {A : Type 0} (p : A → Bool) (xs ys : List A) → filter p (xs ++ ys) ≡ filter p xs ++ filter p ys
filter-append p [] ys = refl
filter-append p (x ∷ xs) ys = choose (p x) (filter-append p xs ys)
  where
    choose : (b : Bool) → filter p (xs ++ ys) ≡ filter p xs ++ filter p ys
        → cond b (x ∷ filter p (xs ++ ys)) (filter p (xs ++ ys)) ≡ cond b (x ∷ filter p xs) (filter p xs) ++ filter p ys
    choose true e = ap (λ zs. x ∷ zs) e
    choose false e = e

length-filter-append : {A : Type 0} (p : A → Bool) (xs ys : List A) → length (filter p (xs ++ ys)) ≡ length (filter p xs) + length (filter p ys)
length-filter-append p xs ys = ap length (filter-append p xs ys) ∙ length-append (filter p xs) (filter p ys)

-- a list of lists is as long as they are together
length-filter-flat_map : {A B : Type 0} (p : B → Bool) (h : A → List B) (n : A → ℕ) → ((x : A) → length (filter p (h x)) ≡ n x)
    → (xs : List A) → length (filter p (flat_map h xs)) ≡ sum_of (map n xs)
length-filter-flat_map p h n each [] = refl
length-filter-flat_map p h n each (x ∷ xs) =
    omega (arith, length-filter-append p (h x) (flat_map h xs), each x, length-filter-flat_map p h n each xs)

-- where all elements pass alike
length-filter-alike : {A : Type 0} (p : A → Bool) (b : Bool) → ((x : A) → p x ≡ b) → (xs : List A) → length (filter p xs) ≡ cond b (length xs) 0
length-filter-alike p true all [] = refl
length-filter-alike p false all [] = refl
length-filter-alike p true all (x ∷ xs) =
    ap (λ c. length (cond c (x ∷ filter p xs) (filter p xs))) (all x) ∙ ap suc (length-filter-alike p true all xs)
length-filter-alike p false all (x ∷ xs) =
    ap (λ c. length (cond c (x ∷ filter p xs) (filter p xs))) (all x) ∙ length-filter-alike p false all xs

filter-map-alike : {A B : Type 0} (p : B → Bool) (h : A → B) (b : Bool) → ((x : A) → p (h x) ≡ b) → (xs : List A) → length (filter p (map h xs)) ≡ cond b (length xs) 0
filter-map-alike p h true all [] = refl
filter-map-alike p h false all [] = refl
filter-map-alike p h true all (x ∷ xs) =
    ap (λ c. length (cond c (h x ∷ filter p (map h xs)) (filter p (map h xs)))) (all x) ∙ ap suc (filter-map-alike p h true all xs)
filter-map-alike p h false all (x ∷ xs) =
    ap (λ c. length (cond c (h x ∷ filter p (map h xs)) (filter p (map h xs)))) (all x) ∙ filter-map-alike p h false all xs

length-with_each : (firsts : List GroundTerm) (rests : List GroundTerms) → length (with_each firsts rests) ≡ length firsts * length rests
length-with_each [] rests = let none : 0 * length rests ≡ 0 = omega arith in sym none
length-with_each (t ∷ ts) rests =
    let here = length-append (map (term_and t) rests) (with_each ts rests) in
    let later = length-with_each ts rests in
    let size = length-map rests (term_and t) in
    let step : suc (length ts) * length rests ≡ length rests + length ts * length rests = omega arith in
    omega (arith, here, later, size, step)

module _ (g : Signature) (f : Formula) where
  module _ (terms : List GroundTerm) (count : ℕ → ℕ) (counts : (sort : ℕ) → length (of_sort g f sort terms) ≡ count sort) where
    length-arguments : (above : List ℕ) → length (arguments g f terms above) ≡ product_of (map count above)
    length-arguments [] = refl
    length-arguments (s ∷ above) =
        length-with_each (of_sort g f s terms) (arguments g f terms above) ∙ product (counts s) (length-arguments above)
      where
        product : {a b c d : ℕ} → a ≡ b → c ≡ d → a * c ≡ b * d
        product p q = cc

    length-source : (o : Option ℕ) → length (of_source g f terms o) ≡ added_by_source g f count o
    length-source None = refl
    length-source (Some s) = counts s

    count_fields : (sort : ℕ) → length (of_sort g f sort (field_terms g f terms)) ≡ sum_of (map (added_by_function g f count sort) (functions g f))
    count_fields sort =
        length-filter-flat_map (λ t. is_number (sort_of g t) sort) (λ k. map (field k) (of_source g f terms (source_of g k))) (added_by_function g f count sort)
        (λ k.
        filter-map-alike (λ t. is_number (sort_of g t) sort) (field k) (is_number (target_of g k) sort) (λ t. refl) (of_source g f terms (source_of g k))
        ∙ ap (λ n. cond (is_number (target_of g k) sort) n 0) (length-source (source_of g k)))
        (functions g f)

    count_skolems : (sort : ℕ) → length (of_sort g f sort (skolem_terms g f terms)) ≡ sum_of (map (added_by_variable g f count sort) (skolem_variables g f))
    count_skolems sort =
        length-filter-flat_map (λ t. is_number (sort_of g t) sort) (λ v. map (skolem v.number v.sort) (arguments g f terms v.above)) (added_by_variable g f count sort)
        (λ v.
        filter-map-alike (λ t. is_number (sort_of g t) sort) (skolem v.number v.sort) (v.sort == sort) (λ ts. refl) (arguments g f terms v.above)
        ∙ ap (λ n. cond (v.sort == sort) n 0) (length-arguments v.above))
        (skolem_variables g f)

  -- the terms of a sort
  pub counted_sort : (n sort : ℕ) → length (of_sort g f sort (terms_after g f n)) ≡ count_after g f n sort
  counted_sort zero sort = refl
  counted_sort (suc n) sort =
      let terms : List GroundTerm = terms_after g f n in
      let P : GroundTerm → Bool = λ t. is_number (sort_of g t) sort in
      let plain : List GroundTerm = filter (is_plain g f) (first_terms g f) in
      let whole = length-filter-append P plain (field_terms g f terms ++ skolem_terms g f terms) in
      let added = length-filter-append P (field_terms g f terms) (skolem_terms g f terms) in
      let fields = count_fields terms (count_after g f n) (counted_sort n) sort in
      let skolems = count_skolems terms (count_after g f n) (counted_sort n) sort in
      omega (arith, whole, added, fields, skolems)

  abbrev one : ℕ → ℕ → ℕ
  one s sort = cond (s == sort) 1 0

  none_at : (a n s : ℕ) → s < a → sum_of (map (one s) (range_with_len a n)) ≡ 0
  none_at a zero s before = refl
  none_at a (suc n) s before =
      elim (eqb_tells s a) [
        | inl same ↦ absurd (omega (arith, before, same.1))
        | inr other ↦ let away : one s a ≡ 0 = ap {B = ℕ} (λ b. cond b 1 0) other.0 in omega (arith, away, none_at (a + 1) n s (omega (arith, before)))
      ]

  -- one of the sorts is that of a term
  one_at : (a n s : ℕ) → a ≤ s → s < a + n → sum_of (map (one s) (range_with_len a n)) ≡ 1
  one_at a zero s low high = absurd (omega (arith, low, high))
  one_at a (suc n) s low high =
      elim (eqb_tells s a) [
        | inl same ↦ let here : one s a ≡ 1 = ap {B = ℕ} (λ b. cond b 1 0) same.0 in omega (arith, here, none_at (a + 1) n s (omega (arith, same.1)))
        | inr other ↦ let away : one s a ≡ 0 = ap {B = ℕ} (λ b. cond b 1 0) other.0 in omega (arith, away, one_at (a + 1) n s (omega (arith, low, other.1)) (omega (arith, high)))
      ]

  sum_two : (m n k : ℕ → ℕ) → ((x : ℕ) → k x ≡ m x + n x) → (xs : List ℕ) → sum_of (map k xs) ≡ sum_of (map m xs) + sum_of (map n xs)
  sum_two m n k each [] = refl
  sum_two m n k each (x ∷ xs) = omega (arith, each x, sum_two m n k each xs)

  sum_none : (k : ℕ → ℕ) → ((x : ℕ) → k x ≡ 0) → (xs : List ℕ) → sum_of (map k xs) ≡ 0
  sum_none k each [] = refl
  sum_none k each (x ∷ xs) = omega (arith, each x, sum_none k each xs)

  sum_same : (m n : ℕ → ℕ) → ((x : ℕ) → m x ≡ n x) → (xs : List ℕ) → sum_of (map m xs) ≡ sum_of (map n xs)
  sum_same m n each [] = refl
  sum_same m n each (x ∷ xs) = omega (arith, each x, sum_same m n each xs)

  -- a list is as long as its parts by sorts
  by_sorts : (ts : List GroundTerm) → ((t : GroundTerm) → Contains ts t → (s : ℕ) × (sort_of g t ≡ Some s) × (s < g.sorts))
      → sum_of (map (λ sort. length (of_sort g f sort ts)) (range_with_len 0 g.sorts)) ≡ length ts
  by_sorts [] sorts = sum_none (λ sort. 0) (λ sort. refl) (range_with_len 0 g.sorts)
  by_sorts (t ∷ ts) sorts =
      let own = sorts t (Contains-head t ts) in
      let later = by_sorts ts (λ u c. sorts u (Contains-tail t ts u c)) in
      let here = one_at 0 g.sorts own.0 (omega arith) (omega (arith, own.2)) in
      let split = sum_two (one own.0) (λ sort. length (of_sort g f sort ts)) (λ sort. length (of_sort g f sort (t ∷ ts))) (λ sort. first own.0 own.1 sort) (range_with_len 0 g.sorts) in
      omega (arith, here, later, split)
    where
      first : (s : ℕ) → sort_of g t ≡ Some s → (sort : ℕ) → length (of_sort g f sort (t ∷ ts)) ≡ one s sort + length (of_sort g f sort ts)
      first s e sort =
          ap (λ o. length (cond (is_number o sort) (t ∷ of_sort g f sort ts) (of_sort g f sort ts))) e ∙ choose (s == sort)
        where
          choose : (b : Bool) → length (cond b (t ∷ of_sort g f sort ts) (of_sort g f sort ts)) ≡ cond b 1 0 + length (of_sort g f sort ts)
          choose true = omega arith
          choose false = omega arith

  pub counted_terms : (n : ℕ) → ((t : GroundTerm) → Contains (terms_after g f n) t → (s : ℕ) × (sort_of g t ≡ Some s) × (s < g.sorts))
      → length (terms_after g f n) ≡ terms_counted g f n
  counted_terms n sorts =
      sym (by_sorts (terms_after g f n) sorts)
      ∙ sum_same (λ sort. length (of_sort g f sort (terms_after g f n))) (count_after g f n) (counted_sort n) (range_with_len 0 g.sorts)
