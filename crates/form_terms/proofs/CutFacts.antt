-- What a structure that is cut down has.
use Rattle.std.proofs.Common.{◌≡◌, ℕ, zero, suc, ◌+◌, ◌<◌, ◌⊎◌, inl, inr, Bool, true, false, ◌&&◌, ◌||◌, refl, sym, ◌∙◌, List, [], ◌∷◌, Some, None, Option, length, cond, ap, arith, slice_get, Contains, map}
use Rattle.std.specs.Prelude.{slice_index_or, ◌==◌}
use Rattle.std.specs.List.{list_any, range_with_len, filter}
use Rattle.std.specs.Option.{option_map}
use Rattle.std.proofs.lemmas.Bool.{and_parts, eqb-true, cases_lt}
use Rattle.std.proofs.lemmas.Bool.Decides.{eqb_tells}
use Rattle.std.proofs.lemmas.List.{get_or_past}
use Rattle.std.proofs.lemmas.List.FromFn.{get_or-map-range_with_len, length-map-range_with_len}
use Rattle.std.proofs.lemmas.Option.{slice_get_within, slice_get-get_or}
use Rattle.form_formula.specs.declared.structure.FunSig.{FunSig}
use Rattle.form_formula.specs.declared.structure.SetSig.{SetSig}
use Rattle.form_formula.specs.declared.structure.Signature.{Signature}
use Rattle.form_formula.specs.declared.structure.Structure.{Structure}
use Rattle.form_formula.specs.Over.{IsFunction}
use Rattle.form_formula.specs.Truth.{entry, relates}
use Rattle.form_terms.specs.GroundTerms.{GroundTerm, sort_of, is_number}
use Rattle.form_terms.specs.Structures.{IsStructure, size_of}
use Rattle.form_terms.specs.Passing.{Choice, element_named, IsNamed}
use Rattle.form_terms.specs.Cut.{names_it, default_of, is_kept, kept, place_of, moved_value, table_of, pairs_of, cut}
use Rattle.form_terms.proofs.Lists.{Contains-head, Contains-tail, either_true}
use Rattle.form_terms.proofs.Kept.{All-Contains, at_position, position_at, enumerated, list_any-from, list_any-some, or_right, nat_same}

missed : (a b u v : Bool) → b ≡ false → u ≡ v → u ≡ ((a && b) || v)
missed true b u v e h = let w = e in cc
missed false b u v e h = h

pub number_is : (o : Option ℕ) (x : ℕ) → is_number o x ≡ true → o ≡ Some x
number_is None x e = cc
number_is (Some y) x e = ap (λ n. Some n) (eqb-true y x e)

pub is_the_number : (o : Option ℕ) (x : ℕ) → o ≡ Some x → is_number o x ≡ true
is_the_number o x e = ap (λ o. is_number o x) e ∙ nat_same x

mapped : {X Y : Type 0} (h : X → Y) (xs : List X) (i : ℕ) (x : X) (d : Y) → slice_get xs i ≡ Some x → slice_index_or (map h xs) i d ≡ h x
mapped h [] i x d e = cc
mapped h (y ∷ xs) zero x d e = let same : y ≡ x = cc in ap h same
mapped h (y ∷ xs) (suc i) x d e = mapped h xs i x d e

module _ (g : Signature) (s : Structure) (c : Choice) (terms : List GroundTerm) (over : IsStructure g s) where
  pub named_kept : (sort x : ℕ) → IsNamed g s c (Contains terms) sort x → is_kept g s c terms sort x ≡ true
  named_kept sort x (t, there, kind, names) =
      let p = is_the_number (sort_of g t) sort kind in
      let q = is_the_number (element_named s c t) x names in
      let test : names_it g s c terms sort x t ≡ true = cc in
      let found = list_any-from (names_it g s c terms sort x) terms t there test in
      ap (λ b. b || is_number (default_of g s c terms sort) x) found

  pub default_kept : (sort x : ℕ) → default_of g s c terms sort ≡ Some x → is_kept g s c terms sort x ≡ true
  default_kept sort x e = or_right (list_any (names_it g s c terms sort x) terms) _ (is_the_number (default_of g s c terms sort) x e)

  pub kept_named : (sort x : ℕ) → is_kept g s c terms sort x ≡ true → IsNamed g s c (Contains terms) sort x ⊎ (default_of g s c terms sort ≡ Some x)
  kept_named sort x e =
      elim (either_true (list_any (names_it g s c terms sort x) terms) (is_number (default_of g s c terms sort) x) e) [
        | inl some ↦
            let found = list_any-some (names_it g s c terms sort x) terms some in
            let both = and_parts (is_number (sort_of g found.0) sort) (is_number (element_named s c found.0) x) found.2 in
            inl (found.0, found.1, number_is (sort_of g found.0) sort both.0, number_is (element_named s c found.0) x both.1)
        | inr own ↦ inr (number_is (default_of g s c terms sort) x own)
      ]

  -- an element that is kept stands at its place
  pub stands : (sort x : ℕ) → x < size_of s sort → is_kept g s c terms sort x ≡ true
      → slice_get (kept g s c terms sort) (place_of g s c terms sort x) ≡ Some x
  stands sort x within e = at_position (is_kept g s c terms sort) 0 (size_of s sort) x (omega arith) (omega (arith, within)) e

  abbrev pub IsOld : ℕ → ℕ → ℕ → Type 0
  IsOld sort i x = (slice_get (kept g s c terms sort) i ≡ Some x) × (x < size_of s sort) × (is_kept g s c terms sort x ≡ true) × (place_of g s c terms sort x ≡ i)

  pub old_at : (sort i x : ℕ) → slice_get (kept g s c terms sort) i ≡ Some x → IsOld sort i x
  old_at sort i x e =
      let h = position_at (is_kept g s c terms sort) 0 (size_of s sort) i x e in
      (e, omega (arith, h.1), h.2, h.3)

  pub cut_size : (sort : ℕ) → size_of (cut g s c terms) sort ≡ length (kept g s c terms sort)
  cut_size sort =
      elim (cases_lt sort g.sorts) [
        | inl less ↦ get_or-map-range_with_len (λ sort. length (kept g s c terms sort)) 0 g.sorts sort sort 0 less (omega arith)
        | inr more ↦
            let none : size_of s sort ≡ 0 = get_or_past s.sizes sort 0 (omega (arith, over.sizes, more)) in
            get_or_past (cut g s c terms).sizes sort 0 (omega (arith, length-map-range_with_len (λ sort. length (kept g s c terms sort)) 0 g.sorts, more))
            ∙ sym (ap (λ n. length (filter (is_kept g s c terms sort) (range_with_len 0 n))) none)
      ]

  -- the element that has a new number
  pub old_of : (sort i : ℕ) → i < size_of (cut g s c terms) sort → (x : ℕ) × IsOld sort i x
  old_of sort i within =
      let less : i < length (kept g s c terms sort) = omega (arith, within, cut_size sort) in
      let x : ℕ = slice_index_or (kept g s c terms sort) i 0 in
      (x, old_at sort i x (slice_get-get_or (kept g s c terms sort) i 0 less))

  pub place_within : (sort x : ℕ) → x < size_of s sort → is_kept g s c terms sort x ≡ true → place_of g s c terms sort x < size_of (cut g s c terms) sort
  place_within sort x within e =
      let less = slice_get_within (kept g s c terms sort) (place_of g s c terms sort x) x (stands sort x within e) in omega (arith, less, cut_size sort)

  -- places are equal where elements are
  pub same_place : (sort x y : ℕ) → x < size_of s sort → is_kept g s c terms sort x ≡ true → y < size_of s sort → is_kept g s c terms sort y ≡ true
      → (place_of g s c terms sort x == place_of g s c terms sort y) ≡ (x == y)
  same_place sort x y a b p q =
      let i : ℕ = place_of g s c terms sort x in
      let j : ℕ = place_of g s c terms sort y in
      elim (eqb_tells x y) [
        | inl same ↦
            let e : i ≡ j = ap (place_of g s c terms sort) same.1 in
            elim (eqb_tells i j) [ inl t ↦ t.0 ∙ sym same.0 | inr t ↦ absurd (t.1 e) ]
        | inr other ↦
            elim (eqb_tells i j) [
              | inl t ↦
                  let here : slice_get (kept g s c terms sort) i ≡ Some x = stands sort x a b in
                  let there : slice_get (kept g s c terms sort) j ≡ Some y = stands sort y p q in
                  let both : Some x ≡ Some y = sym here ∙ (ap (slice_get (kept g s c terms sort)) t.1 ∙ there) in
                  let e : x ≡ y = cc in absurd (other.1 e)
              | inr t ↦ t.0 ∙ sym other.0
            ]
      ]

  pub cut_entry : (h : ℕ) (sig : FunSig) (i x : ℕ) → IsFunction g h sig → slice_get (kept g s c terms sig.from) i ≡ Some x
      → entry (cut g s c terms) h i ≡ option_map (moved_value g s c terms sig.to) (entry s h x)
  cut_entry h sig i x there e =
      let start : 0 + h ≡ h = omega arith in
      let row : slice_index_or (cut g s c terms).funs h [] ≡ table_of g s c terms (h, sig) =
      enumerated (table_of g s c terms) 0 h g.funs sig [] there ∙ ap (λ h. table_of g s c terms (h, sig)) start in
      ap (λ row. slice_index_or row i None) row
      ∙ mapped (λ x. option_map (moved_value g s c terms sig.to) (entry s h x)) (kept g s c terms sig.from) i x None e

  abbrev matches : ℕ → ℕ → ℕ × ℕ → Bool
  matches x y pair = (pair.0 == x) && (pair.1 == y)

  abbrev pub both_kept : SetSig → ℕ × ℕ → Bool
  both_kept sig pair = is_kept g s c terms sig.from pair.0 && is_kept g s c terms sig.to pair.1

  abbrev pub moved_pair : SetSig → ℕ × ℕ → ℕ × ℕ
  moved_pair sig pair = (place_of g s c terms sig.from pair.0, place_of g s c terms sig.to pair.1)

  cut_pairs : (sig : SetSig) (x y : ℕ) → x < size_of s sig.from → is_kept g s c terms sig.from x ≡ true → y < size_of s sig.to → is_kept g s c terms sig.to y ≡ true
      → (pairs : List (ℕ × ℕ)) → ((p : ℕ × ℕ) → Contains pairs p → (p.0 < size_of s sig.from) × (p.1 < size_of s sig.to))
      → list_any (matches (place_of g s c terms sig.from x) (place_of g s c terms sig.to y)) (map (moved_pair sig) (filter (both_kept sig) pairs))
      ≡ list_any (matches x y) pairs
  cut_pairs sig x y a b p q [] all = refl
  cut_pairs sig x y a b p q (pair ∷ pairs) all =
      let later = cut_pairs sig x y a b p q pairs (λ r there. all r (Contains-tail pair pairs r there)) in
      let here = all pair (Contains-head pair pairs) in
      choose (is_kept g s c terms sig.from pair.0) (is_kept g s c terms sig.to pair.1) refl refl here later
    where
      choose : (m n : Bool) → is_kept g s c terms sig.from pair.0 ≡ m → is_kept g s c terms sig.to pair.1 ≡ n
          → (pair.0 < size_of s sig.from) × (pair.1 < size_of s sig.to)
          → list_any (matches (place_of g s c terms sig.from x) (place_of g s c terms sig.to y)) (map (moved_pair sig) (filter (both_kept sig) pairs)) ≡ list_any (matches x y) pairs
          → list_any (matches (place_of g s c terms sig.from x) (place_of g s c terms sig.to y))
          (map (moved_pair sig) (cond (m && n) (pair ∷ filter (both_kept sig) pairs) (filter (both_kept sig) pairs)))
          ≡ (matches x y pair || list_any (matches x y) pairs)
      choose true true e f within later =
          let u = same_place sig.from pair.0 x within.0 e a b in
          let v = same_place sig.to pair.1 y within.1 f p q in cc
      choose false n e f within later =
          elim (eqb_tells pair.0 x) [
            | inl same ↦ let no : false ≡ true = sym e ∙ (ap (is_kept g s c terms sig.from) same.1 ∙ b) in cc
            | inr other ↦ let miss = other.0 in cc
          ]
      choose true false e f within later =
          elim (eqb_tells pair.1 y) [
            | inl same ↦ let no : false ≡ true = sym f ∙ (ap (is_kept g s c terms sig.to) same.1 ∙ q) in cc
            | inr other ↦ let miss = other.0 in missed (pair.0 == x) (pair.1 == y) _ _ miss later
          ]

  pub cut_relates : (r : ℕ) (sig : SetSig) (x y : ℕ) → slice_get g.sets r ≡ Some sig
      → x < size_of s sig.from → is_kept g s c terms sig.from x ≡ true → y < size_of s sig.to → is_kept g s c terms sig.to y ≡ true
      → relates (cut g s c terms) r (place_of g s c terms sig.from x) (place_of g s c terms sig.to y) ≡ relates s r x y
  cut_relates r sig x y there a b p q =
      let start : 0 + r ≡ r = omega arith in
      let row : slice_index_or (cut g s c terms).sets r [] ≡ pairs_of g s c terms (r, sig) =
      enumerated (pairs_of g s c terms) 0 r g.sets sig [] there ∙ ap (λ r. pairs_of g s c terms (r, sig)) start in
      ap (list_any (matches (place_of g s c terms sig.from x) (place_of g s c terms sig.to y))) row
      ∙ cut_pairs sig x y a b p q (slice_index_or s.sets r []) (λ pair c. All-Contains (λ q. (q.0 < size_of s sig.from) × (q.1 < size_of s sig.to)) (slice_index_or s.sets r []) pair (over.pairs r sig there) c)
