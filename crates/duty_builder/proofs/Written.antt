-- Which added field is written out.
use Rattle.std.proofs.Common.{◌≡◌, ℕ, suc, zero, ◌+◌, ◌-◌, ◌<◌, ◌≤◌, true, false, refl, sym, ◌∙◌, List, [], ◌∷◌, ◌++◌, length, take, get_or, ap, arith, rules, add-one}
use Rattle.std.specs.Prelude.{map, Some, None, fold, slice_get, ◌&&◌, ◌==◌, if◌then◌else◌}
use Rattle.std.proofs.lemmas.Option.{same_Some, slice_get-map, slice_get-get_or}
use Rattle.std.specs.Option.{option_map}
use Rattle.std.proofs.lemmas.List.Sums.{fold-append}
use Rattle.std.specs.declared.rc.Rc.{Rc}
use Rattle.std.specs.declared.alloc.Global.{Global}
use Rattle.type_schema.specs.declared.trees.TInit.{TInit}
use Rattle.type_schema.specs.Schema.{Schema, Added}
use Rattle.type_schema.specs.SchemaViews.{added_of}
use Rattle.type_schema.specs.Views.{init_of}
use Rattle.duty_meaning.specs.Formulas.{with_added, written_out, nothing_written, init_cases}

abbrev pub Adding : Type 0
Adding = ℕ × ℕ × Rc TInit Global

take_at : {A : Type 0} (xs : List A) (k : ℕ) (a : A) → slice_get xs k ≡ Some a → take (suc k) xs ≡ take k xs ++ a ∷ []
take_at [] k a e = cc
take_at (x ∷ xs) zero a e = ap (λ y. y ∷ []) (same_Some x a e)
take_at (x ∷ xs) (suc k) a e = ap (λ ys. x ∷ ys) (take_at xs k a e)

take_past : {A : Type 0} (xs : List A) (k : ℕ) → slice_get xs k ≡ None → take (suc k) xs ≡ take k xs
take_past [] zero e = refl
take_past [] (suc k) e = refl
take_past (x ∷ xs) zero e = cc
take_past (x ∷ xs) (suc k) e = ap (λ ys. x ∷ ys) (take_past xs k e)

-- what one more added field writes out
written_last : (s : Schema) (xs : List Added) (k : ℕ) (a : Added) → slice_get xs k ≡ Some a
    → written_out s (take (suc k) xs) ≡ with_added s (written_out s (take k xs)) a
written_last s xs k a e =
    ap (fold (with_added s) nothing_written) (take_at xs k a e) ∙ fold-append (with_added s) nothing_written (take k xs) (a ∷ [])

-- it is written out where it is for the field, and otherwise one of those before it is
pub written_here : (s : Schema) (xs : List Adding) (n k m f : ℕ) (a : Adding) → 1 ≤ n → k ≡ n - 1 → k < length xs → a ≡ get_or xs k a → a.0 ≡ m → a.1 ≡ f
    → written_out s (take n (map added_of xs)) m f ≡ Some (init_cases s (written_out s (take k (map added_of xs))) (init_of a.2.value))
written_here s xs n k m f a some less within is model field =
    let next : k + 1 ≡ n = omega arith in
    let at : slice_get xs k ≡ Some a = slice_get-get_or xs k a within ∙ ap (λ y. Some y) (sym is) in
    let there : slice_get (map added_of xs) k ≡ Some (added_of a) = slice_get-map added_of xs k ∙ ap (option_map added_of) at in
    ap (λ i. written_out s (take i (map added_of xs)) m f) (sym next ∙ add-one k)
    ∙ (ap (λ w. w m f) (written_last s (map added_of xs) k (added_of a) there)
    ∙ ap (λ b. if b then Some (init_cases s (written_out s (take k (map added_of xs))) (init_of a.2.value)) else written_out s (take k (map added_of xs)) m f)
    (both_same (a.0) m (a.1) f model field))
  where
    both_same : (a m b f : ℕ) → a ≡ m → b ≡ f → ((a == m) && (b == f)) ≡ true
    both_same a m b f p q = rw (p, q) (search rules)

pub written_before : (s : Schema) (xs : List Adding) (n k m f : ℕ) (a : Adding) → 1 ≤ n → k ≡ n - 1 → k < length xs → a ≡ get_or xs k a → ((a.0 == m) && (a.1 == f)) ≡ false
    → written_out s (take n (map added_of xs)) m f ≡ written_out s (take k (map added_of xs)) m f
written_before s xs n k m f a some less within is other =
    let next : k + 1 ≡ n = omega arith in
    let at : slice_get xs k ≡ Some a = slice_get-get_or xs k a within ∙ ap (λ y. Some y) (sym is) in
    let there : slice_get (map added_of xs) k ≡ Some (added_of a) = slice_get-map added_of xs k ∙ ap (option_map added_of) at in
    ap (λ i. written_out s (take i (map added_of xs)) m f) (sym next ∙ add-one k)
    ∙ (ap (λ w. w m f) (written_last s (map added_of xs) k (added_of a) there)
    ∙ ap (λ b. if b then Some (init_cases s (written_out s (take k (map added_of xs))) (init_of a.2.value)) else written_out s (take k (map added_of xs)) m f) other)

none_past : {A : Type 0} (xs : List A) (k : ℕ) → length xs ≤ k → slice_get xs k ≡ None
none_past [] k le = refl
none_past (x ∷ xs) zero le = absurd (omega arith)
none_past (x ∷ xs) (suc k) le = none_past xs k (omega arith)

pub written_past : (s : Schema) (xs : List Adding) (n k m f : ℕ) → 1 ≤ n → k ≡ n - 1 → length xs ≤ k
    → written_out s (take n (map added_of xs)) m f ≡ written_out s (take k (map added_of xs)) m f
written_past s xs n k m f some less past =
    let next : k + 1 ≡ n = omega arith in
    let at : slice_get xs k ≡ None = none_past xs k past in
    let there : slice_get (map added_of xs) k ≡ None = slice_get-map added_of xs k ∙ ap (option_map added_of) at in
    ap (λ i. written_out s (take i (map added_of xs)) m f) (sym next ∙ add-one k) ∙ ap (λ ys. written_out s ys m f) (take_past (map added_of xs) k there)

pub not_both : (a m b f : ℕ) → (b ≡ f → ⊥) → ((a == m) && (b == f)) ≡ false
not_both a m b f other = grind arith

pub not_first : (a m b f : ℕ) → (a ≡ m → ⊥) → ((a == m) && (b == f)) ≡ false
not_first a m b f other = grind arith
