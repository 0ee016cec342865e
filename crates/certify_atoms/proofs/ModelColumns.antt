-- A lawful model as a model of the decision procedures.
use Rattle.std.proofs.Common.{◌≡◌, ℕ, zero, suc, ◌+◌, ◌-◌, ◌^◌, ◌<◌, Bool, true, false, ◌&&◌, ◌||◌, not, ◌⊎◌, inl, inr, refl, sym, ◌∙◌, List, [], ◌∷◌, ◌++◌, Some, length, get_or, map, ap, subst, arith, cond, Contains, slice_get, ℤ, pos, negsuc, neg_ℤ, ◌+ℤ◌, ◌-ℤ◌, ◌≤ℤ◌, length-append, IsTrue, nat_lt}
use Rattle.std.specs.Prelude.{◌==◌, int_le, int_lt, FitsSigned}
use Rattle.std.specs.Int.{w64}
use Rattle.std.specs.List.{range_with_len, list_any, list_all}
use Rattle.std.specs.Ordering.{int_eq}
use Rattle.std.proofs.lemmas.Bool.{eqb-true}
use Rattle.std.proofs.lemmas.Int.{ints}
use Rattle.std.proofs.lemmas.List.{get_or_append_left}
use Rattle.std.proofs.lemmas.List.FromFn.{get_or-map-range_with_len, length-map-range_with_len}
use Rattle.solve_equality.specs.Equality.{are_together, is_classes, keeps_apart}
use Rattle.solve_order.specs.Difference.{value_of, is_assignment}
use Rattle.solve_order.proofs.ModelLemmas.{test_from_IsAssignment}
use Rattle.solve_order.proofs.DifferenceLemmas.{le_from_test, test_from_le}
use Rattle.form_formula.specs.declared.node.Node.{Node}
use Rattle.form_formula.specs.declared.structure.Range.TheVariants as range
use Rattle.form_formula.specs.declared.structure.Signature.{Signature}
use Rattle.form_formula.specs.declared.structure.SVal.{SVal}
use Rattle.form_formula.specs.declared.structure.SVal.TheVariants.{Str}
use Rattle.form_formula.specs.Truth.{are_equal}
use Rattle.form_terms.specs.GroundTerms.{GroundTerm}
use Rattle.form_terms.specs.Listing.{is_same_term}
use Rattle.form_terms.proofs.Kept.{nat_same, list_any-from, list_any-some, list_all-from}
use Rattle.form_terms.proofs.Listed.{same_term, same_itself}
use Rattle.ground_terms.specs.declared.node.TermNode.{TermNode}
use Rattle.ground_terms.specs.Nodes.{term_of, IsOne}
use Rattle.ground_terms.proofs.Placement.{kind_within}
use Rattle.form_tables.specs.Vocabulary.{Vocabulary, told}
use Rattle.form_tables.specs.Facts.{Assignment, Noun, term, text, same, below as less, is_fact}
use Rattle.form_tables.specs.Models.{Model, IsLawful, IsNumeric, noun_number, assignment_of}
use Rattle.form_tables.proofs.Positions.{below}
use Rattle.form_tables.proofs.Assigned.{equal_same, same_equal}
use Rattle.form_tables.proofs.Lawful.{elements_same, texts_same, text_same, numbers_below, numbers_same}
use Rattle.ground_instances.specs.declared.input.Value.{Value}
use Rattle.ground_instances.specs.declared.input.Value.TheVariants.{Term}
use Rattle.ground_problem.specs.Words.{vocabulary_at}
use Rattle.ground_problem.specs.declared.words.Words.{Words}
use Rattle.ground_problem.specs.Facts.{noun_at}
use Rattle.certify_atoms.specs.Atoms.{IsTextTerm, IsTextLiteral, IsNumberSide, AreElements, AreTexts}
use Rattle.certify_atoms.proofs.Items.{slice_within, item_there}

pub same_bools : (a b : Bool) → (a ≡ true → b ≡ true) → (b ≡ true → a ≡ true) → a ≡ b
same_bools true true h k = refl
same_bools true false h k = sym (h refl)
same_bools false true h k = k refl
same_bools false false h k = refl

-- a test of two values, and one of two numbers
test_same : (b : Bool) (j k : ℕ) → (b ≡ true → j ≡ k) → (j ≡ k → b ≡ true) → b ≡ (j == k)
test_same b j k p q =
    same_bools b (j == k) (λ e. let P : ℕ → Type 0 = λ n. (j == n) ≡ true in subst P (p e) (nat_same j)) (λ e. q (eqb-true j k e))

flipped : (j k : ℕ) → (j == k) ≡ (k == j)
flipped j k =
    same_bools (j == k) (k == j) (λ e. let P : ℕ → Type 0 = λ n. (k == n) ≡ true in subst P (sym (eqb-true j k e)) (nat_same k))
    (λ e. let P : ℕ → Type 0 = λ n. (j == n) ≡ true in subst P (sym (eqb-true k j e)) (nat_same j))

turned : (x y : SVal) → are_equal x y ≡ true → are_equal y x ≡ true
turned x y e =
    let same : x ≡ y = equal_same x y e in
    let P : SVal → Type 0 = λ z. are_equal x z ≡ true in
    let Q : SVal → Type 0 = λ z. are_equal z x ≡ true in subst Q same (subst P (sym same) e)

equal_turned : (x y : SVal) → are_equal x y ≡ are_equal y x
equal_turned x y = same_bools (are_equal x y) (are_equal y x) (turned x y) (turned y x)

low_fits : (z : ℤ) → FitsSigned w64 z → neg_ℤ (pos (2 ^ 63)) ≤ℤ z
low_fits (pos n) h = omega (arith, ints, h.sfits)
low_fits (negsuc n) h = omega (arith, ints, h.sfits)

high_fits : (z : ℤ) → FitsSigned w64 z → z ≤ℤ pos (2 ^ 63 - 1)
high_fits (pos n) h = omega (arith, ints, h.sfits)
high_fits (negsuc n) h = omega (arith, ints, h.sfits)

below_test : (m n : ℕ) → m < n → nat_lt m n ≡ true
below_test m n h = below m n h

-- one number is below another where their difference is
pub below_difference : (vx vy o q : ℤ) → int_le (vx -ℤ vy) ((q -ℤ o) -ℤ pos 1) ≡ int_lt (vx +ℤ o) (vy +ℤ q)
below_difference vx vy o q =
    same_bools (int_le (vx -ℤ vy) ((q -ℤ o) -ℤ pos 1)) (int_lt (vx +ℤ o) (vy +ℤ q))
    (λ e. let h : (vx -ℤ vy) ≤ℤ ((q -ℤ o) -ℤ pos 1) = le_from_test _ _ e in lt_test (vx +ℤ o) (vy +ℤ q) (omega (arith, ints)))
    (λ e. let h : ((vx +ℤ o) +ℤ pos 1) ≤ℤ (vy +ℤ q) = lt_fact (vx +ℤ o) (vy +ℤ q) e in test_from_le (vx -ℤ vy) ((q -ℤ o) -ℤ pos 1) (omega (arith, ints)))
  where
    lt_test : (a b : ℤ) → (a +ℤ pos 1) ≤ℤ b → int_lt a b ≡ true
    lt_test a b h = grind (arith, ints)

    lt_fact : (a b : ℤ) → int_lt a b ≡ true → (a +ℤ pos 1) ≤ℤ b
    lt_fact a b h = grind (arith, ints)

pub above_difference : (vx vy o q : ℤ) → int_le (vy -ℤ vx) (o -ℤ q) ≡ not (int_lt (vx +ℤ o) (vy +ℤ q))
above_difference vx vy o q = by (int_lt (vx +ℤ o) (vy +ℤ q)) refl
  where
    lt_fact : (a b : ℤ) → int_lt a b ≡ true → (a +ℤ pos 1) ≤ℤ b
    lt_fact a b h = grind (arith, ints)

    ge_fact : (a b : ℤ) → int_lt a b ≡ false → b ≤ℤ a
    ge_fact a b h = grind (arith, ints)

    absent : (b : Bool) → (b ≡ true → ⊥) → b ≡ false
    absent true h = absurd (h refl)
    absent false h = refl

    by : (b : Bool) → int_lt (vx +ℤ o) (vy +ℤ q) ≡ b → int_le (vy -ℤ vx) (o -ℤ q) ≡ not b
    by true e =
        let less : ((vx +ℤ o) +ℤ pos 1) ≤ℤ (vy +ℤ q) = lt_fact (vx +ℤ o) (vy +ℤ q) e in
        absent (int_le (vy -ℤ vx) (o -ℤ q)) (λ k. let h : (vy -ℤ vx) ≤ℤ (o -ℤ q) = le_from_test _ _ k in omega (arith, ints))
    by false e = let more : (vy +ℤ q) ≤ℤ (vx +ℤ o) = ge_fact (vx +ℤ o) (vy +ℤ q) e in test_from_le (vy -ℤ vx) (o -ℤ q) (omega (arith, ints))

module _ (g : Signature) (nodes : List Node) (terms : List TermNode) (w : Words) (texts : List (List ℕ)) (spare : ℕ → List ℕ) (m : Model) (law : IsLawful g texts spare m (vocabulary_at terms w)) where
  abbrev pub v : Vocabulary
  v = vocabulary_at terms w

  abbrev pub a : Assignment
  a = assignment_of g texts spare m

  -- the class of each numbered term, and then of each text
  abbrev term_classes : List ℕ
  term_classes = map (λ id. m.class (term_of terms id)) (range_with_len 0 (length terms))

  abbrev pub class_column : List ℕ
  class_column = term_classes ++ map m.text_class texts

  -- zero, and then the number of each told term
  abbrev number_of_id : ℕ → ℤ
  number_of_id id = cond (list_any (is_same_term (term_of terms id)) (told v)) (m.number (term_of terms id)) (pos 0)

  abbrev pub number_column : List ℤ
  number_column = pos 0 ∷ map number_of_id (range_with_len 0 (length terms))

  long : length term_classes ≡ length terms
  long = length-map-range_with_len (λ id. m.class (term_of terms id)) 0 (length terms)

  all_long : length class_column ≡ length terms + length texts
  all_long = length-append term_classes (map m.text_class texts) ∙ (ap (λ n. n + length (map m.text_class texts)) long ∙ ap (λ n. length terms + n) (length-map' texts))
    where
      length-map' : (ts : List (List ℕ)) → length (map m.text_class ts) ≡ length ts
      length-map' [] = refl
      length-map' (t ∷ ts) = ap suc (length-map' ts)

  class_of_term : (id : ℕ) → id < length terms → get_or class_column id 0 ≡ m.class (term_of terms id)
  class_of_term id lt =
      get_or_append_left term_classes (map m.text_class texts) 0 id (omega (arith, long))
      ∙ get_or-map-range_with_len (λ id. m.class (term_of terms id)) 0 (length terms) id id 0 lt (omega arith)

  class_of_text : (j : ℕ) (t : List ℕ) → slice_get texts j ≡ Some t → get_or class_column (length terms + j) 0 ≡ m.text_class t
  class_of_text j t e =
      ap (λ n. get_or class_column (n + j) 0) (sym long) ∙ (behind term_classes (map m.text_class texts) j ∙ mapped texts j e)
    where
      behind : (xs ys : List ℕ) (j : ℕ) → get_or (xs ++ ys) (length xs + j) 0 ≡ get_or ys j 0
      behind [] ys j = let none : 0 + j ≡ j = omega arith in ap (λ n. get_or ys n 0) none
      behind (x ∷ xs) ys j = let next : suc (length xs) + j ≡ suc (length xs + j) = omega arith in ap (λ n. get_or (x ∷ xs ++ ys) n 0) next ∙ behind xs ys j

      mapped : (ts : List (List ℕ)) (j : ℕ) → slice_get ts j ≡ Some t → get_or (map m.text_class ts) j 0 ≡ m.text_class t
      mapped [] j e = cc
      mapped (u ∷ ts) zero e = let same' : u ≡ t = cc in ap m.text_class same'
      mapped (u ∷ ts) (suc j) e = mapped ts j e

  number_of_term : (id : ℕ) → id < length terms → Contains (told v) (term_of terms id) → value_of number_column (id + 1) ≡ m.number (term_of terms id)
  number_of_term id lt there =
      let next : id + 1 ≡ suc id = omega arith in
      let test : list_any (is_same_term (term_of terms id)) (told v) ≡ true = list_any-from (is_same_term (term_of terms id)) (told v) (term_of terms id) there (same_itself (term_of terms id)) in
      ap (λ n. get_or number_column n (pos 0)) next
      ∙ (get_or-map-range_with_len number_of_id 0 (length terms) id id (pos 0) lt (omega arith)
      ∙ ap (λ b. cond b (m.number (term_of terms id)) (pos 0)) test)

  -- a model of equality: texts that are fixed are apart
  module _ (fixed : List ℕ) (fixed_are : (c : ℕ) → Contains fixed c → (j : ℕ) × (t : List ℕ) × (slice_get texts j ≡ Some t) × (c ≡ length terms + j))
      (once : (i j : ℕ) (t : List ℕ) → slice_get texts i ≡ Some t → slice_get texts j ≡ Some t → i ≡ j) where
    apart : (c d : ℕ) → Contains fixed c → Contains fixed d → are_together class_column c d ≡ true → c ≡ d
    apart c d x y e =
        let (i, t, p, q) = fixed_are c x in
        let (j, u, r, s) = fixed_are d y in
        let both = and_right' (nat_lt c (length class_column)) (nat_lt d (length class_column)) (get_or class_column c 0 == get_or class_column d 0) e in
        let classes : m.text_class t ≡ m.text_class u =
        sym (ap (λ n. get_or class_column n 0) q ∙ class_of_text i t p) ∙ (eqb-true (get_or class_column c 0) (get_or class_column d 0) both ∙ (ap (λ n. get_or class_column n 0) s ∙ class_of_text j u r)) in
        let one : t ≡ u = law.texts_apart t u (item_there texts i t p) (item_there texts j u r) classes in
        let P : List ℕ → Type 0 = λ u. slice_get texts j ≡ Some u in
        q ∙ (ap (λ n. length terms + n) (once i j t p (subst P (sym one) r)) ∙ sym s)
      where
        and_right' : (p q r : Bool) → (p && q && r) ≡ true → r ≡ true
        and_right' true true r h = h
        and_right' true false r h = cc
        and_right' false q r h = cc

    pub classes_fit : IsTrue (is_classes (length terms + length texts) fixed class_column)
    classes_fit = and_both (length class_column == length terms + length texts) (keeps_apart fixed class_column) (same_len all_long) kept
      where
        and_both : (p q : Bool) → p ≡ true → q ≡ true → (p && q) ≡ true
        and_both true q h k = k
        and_both false q h k = cc

        same_len : {m n : ℕ} → m ≡ n → (m == n) ≡ true
        same_len {m} {n} e = let P : ℕ → Type 0 = λ n. (m == n) ≡ true in subst P e (nat_same m)

        either_way : (c d : ℕ) (b : Bool) → are_together class_column c d ≡ b → (b ≡ true → c ≡ d) → ((c == d) || not b) ≡ true
        either_way c d true e same' = ap (λ x. x || false) (same_len (same' refl)) ∙ refl
        either_way c d false e same' = or_true (c == d)
          where
            or_true : (b : Bool) → (b || true) ≡ true
            or_true true = refl
            or_true false = refl

        kept : keeps_apart fixed class_column ≡ true
        kept =
            list_all-from (λ c. list_all (λ d. (c == d) || not (are_together class_column c d)) fixed) fixed
            (λ c x. list_all-from (λ d. (c == d) || not (are_together class_column c d)) fixed
            (λ d y. either_way c d (are_together class_column c d) refl (λ e. apart c d x y e)))

  -- and a model of differences
  pub numbers_fit : IsTrue (is_assignment (length terms + 1) number_column)
  numbers_fit =
      test_from_IsAssignment (length terms + 1) number_column
      (record {
        as_long = let n = length-map-range_with_len number_of_id 0 (length terms) in let one : suc (length terms) ≡ length terms + 1 = omega arith in ap suc n ∙ one;
        zero = refl;
        low = λ x lt. low_at x lt;
        high = λ x lt. high_at x lt;
      })
    where
      fits_id : (id : ℕ) (b : Bool) → list_any (is_same_term (term_of terms id)) (told v) ≡ b → FitsSigned w64 (cond b (m.number (term_of terms id)) (pos 0))
      fits_id id true e =
          let (t, there, passes) = list_any-some (is_same_term (term_of terms id)) (told v) e in
          let P : GroundTerm → Type 0 = λ t. Contains (told v) t in
          law.numbers (term_of terms id) (subst P (sym (same_term (term_of terms id) t passes)) there)
      fits_id id false e = record { sfits = omega arith }

      at : (id : ℕ) → id < length terms → value_of number_column (suc id) ≡ number_of_id id
      at id lt = get_or-map-range_with_len number_of_id 0 (length terms) id id (pos 0) lt (omega arith)

      low_at : (x : ℕ) → x < length terms + 1 → neg_ℤ (pos (2 ^ 63)) ≤ℤ value_of number_column x
      low_at zero lt = omega (arith, ints)
      low_at (suc id) lt =
          let P : ℤ → Type 0 = λ z. neg_ℤ (pos (2 ^ 63)) ≤ℤ z in
          subst P (sym (at id (omega arith))) (low_fits (number_of_id id) (fits_id id (list_any (is_same_term (term_of terms id)) (told v)) refl))

      high_at : (x : ℕ) → x < length terms + 1 → value_of number_column x ≤ℤ pos (2 ^ 63 - 1)
      high_at zero lt = omega (arith, ints)
      high_at (suc id) lt =
          let P : ℤ → Type 0 = λ z. z ≤ℤ pos (2 ^ 63 - 1) in
          subst P (sym (at id (omega arith))) (high_fits (number_of_id id) (fits_id id (list_any (is_same_term (term_of terms id)) (told v)) refl))

  -- a value and its class
  record IsClassed (n c k : ℕ) : Type 0 where
    bound : c < length class_column
    at : get_or class_column c 0 ≡ k

  together : (c d j k : ℕ) → IsClassed 0 c j → IsClassed 0 d k → are_together class_column c d ≡ (j == k)
  together c d j k p q =
      ap (λ b. b && nat_lt d (length class_column) && (get_or class_column c 0 == get_or class_column d 0)) (below_test c (length class_column) p.bound)
      ∙ (ap (λ b. b && (get_or class_column c 0 == get_or class_column d 0)) (below_test d (length class_column) q.bound)
      ∙ (ap (λ x. x == get_or class_column d 0) p.at ∙ ap (λ x. j == x) q.at))

  within : (id : ℕ) → IsOne terms id → id < length terms
  within id h = kind_within terms id _ h

  term_classed : (id : ℕ) → IsOne terms id → IsClassed 0 id (m.class (term_of terms id))
  term_classed id h = let lt = within id h in record { bound = omega (arith, all_long, lt); at = class_of_term id lt }

  text_classed : (j : ℕ) (t : List ℕ) → slice_get texts j ≡ Some t → IsClassed 0 (length terms + j) (m.text_class t)
  text_classed j t e = let lt = slice_within texts j t e in record { bound = omega (arith, all_long, lt); at = class_of_text j t e }

  noun_term : (x : Value) (id : ℕ) → x ≡ Term id → noun_at nodes terms x ≡ term (term_of terms id)
  noun_term x id e = ap (noun_at nodes terms) e

  elements_together : (x y : Value) (c d : ℕ) → AreElements g nodes terms w texts x y c d → is_fact a (same (noun_at nodes terms x) (noun_at nodes terms y)) ≡ are_together class_column c d
  elements_together x y c d h =
      ap (λ n. is_fact a (same n (noun_at nodes terms y))) (noun_term x c h.left.value)
      ∙ (ap (λ n. is_fact a (same (term (term_of terms c)) n)) (noun_term y d h.right.value)
      ∙ (elements_same g texts spare m v law (term_of terms c) (term_of terms d) h.sort h.left.ranged h.right.ranged
      ∙ sym (together c d (m.class (term_of terms c)) (m.class (term_of terms d)) (term_classed c h.left.one) (term_classed d h.right.one))))

  two_texts : (t u : List ℕ) → Contains texts t → Contains texts u → are_equal (Str t) (Str u) ≡ (m.text_class t == m.text_class u)
  two_texts t u p q =
      test_same (are_equal (Str t) (Str u)) (m.text_class t) (m.text_class u) (λ e. ap m.text_class (bytes (equal_same (Str t) (Str u) e)))
      (λ e. same_equal range.Str (Str t) (Str u) tt (law.are_texts t p) (ap (λ t. Str t) (law.texts_apart t u p q e)))
    where
      bytes : Str t ≡ Str u → t ≡ u
      bytes e = cc

  texts_together : (x y : Value) (c d : ℕ) → AreTexts g nodes terms w texts x y c d → is_fact a (same (noun_at nodes terms x) (noun_at nodes terms y)) ≡ are_together class_column c d
  texts_together x y c d h = choose h.left h.right
    where
      choose : (IsTextTerm g nodes terms w texts x c ⊎ IsTextLiteral g nodes terms w texts x c) → (IsTextTerm g nodes terms w texts y d ⊎ IsTextLiteral g nodes terms w texts y d)
          → is_fact a (same (noun_at nodes terms x) (noun_at nodes terms y)) ≡ are_together class_column c d
      choose (inl p) (inl q) =
          ap (λ n. is_fact a (same n (noun_at nodes terms y))) (noun_term x c p.value)
          ∙ (ap (λ n. is_fact a (same (term (term_of terms c)) n)) (noun_term y d q.value)
          ∙ (texts_same g texts spare m v law (term_of terms c) (term_of terms d) p.told_there.is_told q.told_there.is_told p.ranged q.ranged
          ∙ sym (together c d (m.class (term_of terms c)) (m.class (term_of terms d)) (term_classed c p.told_there.one) (term_classed d q.told_there.one))))
      choose (inl p) (inr q) =
          let classed = subst (λ d. IsClassed 0 d (m.text_class q.bytes)) (sym q.behind) (text_classed q.place q.bytes q.listed) in
          ap (λ n. is_fact a (same n (noun_at nodes terms y))) (noun_term x c p.value)
          ∙ (ap (λ n. is_fact a (same (term (term_of terms c)) n)) q.noun
          ∙ (text_same g texts spare m v law (term_of terms c) q.bytes p.told_there.is_told p.ranged (item_there texts q.place q.bytes q.listed)
          ∙ sym (together c d (m.class (term_of terms c)) (m.text_class q.bytes) (term_classed c p.told_there.one) classed)))
      choose (inr p) (inl q) =
          let classed = subst (λ c. IsClassed 0 c (m.text_class p.bytes)) (sym p.behind) (text_classed p.place p.bytes p.listed) in
          ap (λ n. is_fact a (same n (noun_at nodes terms y))) p.noun
          ∙ (ap (λ n. is_fact a (same (text p.bytes) n)) (noun_term y d q.value)
          ∙ (equal_turned (Str p.bytes) (a.value (term_of terms d))
          ∙ (text_same g texts spare m v law (term_of terms d) p.bytes q.told_there.is_told q.ranged (item_there texts p.place p.bytes p.listed)
          ∙ (flipped (m.class (term_of terms d)) (m.text_class p.bytes)
          ∙ sym (together c d (m.text_class p.bytes) (m.class (term_of terms d)) classed (term_classed d q.told_there.one))))))
      choose (inr p) (inr q) =
          let left = subst (λ c. IsClassed 0 c (m.text_class p.bytes)) (sym p.behind) (text_classed p.place p.bytes p.listed) in
          let right = subst (λ d. IsClassed 0 d (m.text_class q.bytes)) (sym q.behind) (text_classed q.place q.bytes q.listed) in
          ap (λ n. is_fact a (same n (noun_at nodes terms y))) p.noun
          ∙ (ap (λ n. is_fact a (same (text p.bytes) n)) q.noun
          ∙ (two_texts p.bytes q.bytes (item_there texts p.place p.bytes p.listed) (item_there texts q.place q.bytes q.listed)
          ∙ sym (together c d (m.text_class p.bytes) (m.text_class q.bytes) left right)))

  -- a number and its variable
  record IsNumbered (n : Noun) (x : ℕ) (o : ℤ) : Type 0 where
    is_numeric : IsNumeric g n
    at : noun_number m n ≡ value_of number_column x +ℤ o

  number_side : (y : Value) (x : ℕ) (o : ℤ) → IsNumberSide g nodes terms w texts y x o → IsNumbered (noun_at nodes terms y) x o
  number_side y x o (inl p) =
      let P : Noun → Type 0 = λ n. IsNumbered n x o in
      let id = p.id in
      let value : value_of number_column x ≡ m.number (term_of terms id) = ap (value_of number_column) p.behind ∙ number_of_term id (within id p.told_there.one) p.told_there.is_told in
      let plus : m.number (term_of terms id) ≡ value_of number_column x +ℤ o = omega (arith, ints, value, p.itself) in
      subst P (sym (noun_term y id p.value)) (record { is_numeric = p.ranged; at = plus })
  number_side y x o (inr p) =
      let P : Noun → Type 0 = λ n. IsNumbered n x o in
      let value : value_of number_column x ≡ pos 0 = ap (value_of number_column) p.zero_at in
      let plus : o ≡ value_of number_column x +ℤ o = omega (arith, ints, value) in
      subst P (sym p.noun) (record { is_numeric = tt; at = plus })

  below_numbers : (x y : Value) (i j : ℕ) (o q : ℤ) → IsNumberSide g nodes terms w texts x i o → IsNumberSide g nodes terms w texts y j q
      → is_fact a (less (noun_at nodes terms x) (noun_at nodes terms y)) ≡ int_lt (value_of number_column i +ℤ o) (value_of number_column j +ℤ q)
  below_numbers x y i j o q h k =
      let left = number_side x i o h in
      let right = number_side y j q k in
      numbers_below g texts spare m v law (noun_at nodes terms x) (noun_at nodes terms y) left.is_numeric right.is_numeric
      ∙ (ap (λ z. int_lt z (noun_number m (noun_at nodes terms y))) left.at ∙ ap (int_lt (value_of number_column i +ℤ o)) right.at)

  -- equalities and comparisons of numbers
  pub same_numbers : (x y : Value) (i j : ℕ) (o q : ℤ) → IsNumberSide g nodes terms w texts x i o → IsNumberSide g nodes terms w texts y j q
      → is_fact a (same (noun_at nodes terms x) (noun_at nodes terms y)) ≡ int_eq (value_of number_column i +ℤ o) (value_of number_column j +ℤ q)
  same_numbers x y i j o q h k =
      let left = number_side x i o h in
      let right = number_side y j q k in
      numbers_same g texts spare m v law (noun_at nodes terms x) (noun_at nodes terms y) left.is_numeric right.is_numeric
      ∙ (ap (λ z. int_eq z (noun_number m (noun_at nodes terms y))) left.at ∙ ap (int_eq (value_of number_column i +ℤ o)) right.at)

  pub lower_numbers : (x y : Value) (i j : ℕ) (o q : ℤ) → IsNumberSide g nodes terms w texts x i o → IsNumberSide g nodes terms w texts y j q
      → is_fact a (less (noun_at nodes terms x) (noun_at nodes terms y)) ≡ int_lt (value_of number_column i +ℤ o) (value_of number_column j +ℤ q)
  lower_numbers = below_numbers

  -- the model meets the literal of an atom where the fact is one, and the other where it is none
  pub same_met : (x y : Value) (b : Bool) (c d : ℕ) → (AreElements g nodes terms w texts x y c d ⊎ AreTexts g nodes terms w texts x y c d)
      → is_fact a (same (noun_at nodes terms x) (noun_at nodes terms y)) ≡ are_together class_column c d
  same_met x y b c d (inl h) = elements_together x y c d h
  same_met x y b c d (inr h) = texts_together x y c d h
